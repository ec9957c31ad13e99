-- A table of used blocks, behind a command (own).
use Rattle.std.specs.Prelude.{◌≡◌, ℕ, Bool, List, take}
use Rattle.lfs_fs.specs.Free.{free_blocks}
use Rattle.lfs_fs.specs.Table.{IsTableOf}
use Rattle.lfs_fs.specs.Used.{AddsBlocks, AreMarked, CanBeMarked}
use Rattle.lfs_fs.specs.Uses.{times}
use Rattle.lfs_fs.specs.Volume.{Volume}
use Rattle.lfs_command.specs.Command.{Command}
use Rattle.lfs_command.specs.Freed.{freed_uses}
use Rattle.lfs_command.specs.Growth.{grown}
use Rattle.lfs_command.specs.Need.{need}
use Rattle.lfs_command.specs.Planned.{CarriesOut}

-- In a table some blocks can be marked, and others unmarked then; behind that it is the table of a volume.
pub record LeadsToTable (used : List Bool) (taken gone : List ℕ) (w : Volume) : Type 0 where
  pub free : CanBeMarked used taken
  pub marked : (more : List Bool) → AddsBlocks used more taken → AreMarked more gone
  pub table : (more new : List Bool) → AddsBlocks used more taken → AddsBlocks new more gone → IsTableOf w new

-- the law: a table of the blocks that a volume uses, with the blocks that a command adds, is the table of what the command leaves once
-- the blocks that it takes are marked, and those that it removes or replaces unmarked
abbrev pub TablesFollow : Type 0
TablesFollow = (c : Command) (v w : Volume) → CarriesOut c v w → (used : List Bool) → IsTableOf (grown c v) used → (taken gone : List ℕ)
    → taken ≡ take (need v c) (free_blocks (grown c v)) → ((b : ℕ) → times b gone ≡ freed_uses v c b) → LeadsToTable used taken gone w
