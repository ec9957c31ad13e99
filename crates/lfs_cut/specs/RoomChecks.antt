-- The checks on room, on an outline (own).
use Rattle.std.specs.Prelude.{ℕ, ◌+◌, List, [], ◌∷◌, Option, nat_lt, length, sum_by}
use Rattle.lfs_fs.specs.Volume.{Volume}
use Rattle.lfs_command.specs.declared.refusal.Refusal.{Refusal}
use Rattle.lfs_command.specs.declared.refusal.Refusal.TheVariants.{EntryTooLarge, NoSpace}
use Rattle.lfs_command.specs.Need.{part_blocks, dirty_parts}
use Rattle.lfs_command.specs.Verdict.{refuse_if}
use Rattle.lfs_law.specs.OutlineCarried.{has_too_large}

-- the checks on room, on the outline that a command leaves before its parts are cut, where it takes so many blocks for what it makes
abbrev pub room_checks_on : Volume → ℕ → List ℕ → List (Option Refusal)
room_checks_on o made free =
    refuse_if (has_too_large o) EntryTooLarge
    ∷ refuse_if (nat_lt (length free) (made + sum_by (part_blocks o) (dirty_parts o)))
    (NoSpace (made + sum_by (part_blocks o) (dirty_parts o)) (length free))
    ∷ []
