-- Commands of rows that are refused (own).
use Rattle.std.specs.Prelude.{◌≡◌, ℕ, Some, List, ◌∷◌, ◌++◌, length}
use Rattle.lfs_fs.specs.Volume.{Volume}
use Rattle.lfs_command.specs.declared.refusal.Refusal.{Refusal}
use Rattle.lfs_command.specs.Command.{Command}
use Rattle.lfs_command.specs.Verdict.{verdict}
use Rattle.lfs_pack.specs.Lead.{Lead}
use Rattle.lfs_pack.specs.Packed.{Packed, commands, row_commands}

-- One of the commands is refused, on the volume that those before it lead to.
pub record AreStopped (cs : List Command) (v : Volume) (r : Refusal) : Type 0 where
  pub done : List Command
  pub next : Command
  pub later : List Command
  pub are : cs ≡ done ++ next ∷ later
  pub volume : Volume
  pub led : Lead done v volume
  pub refused : verdict volume next ≡ Some r

-- The row behind so many is refused: the rows before it lead to a volume, and from there on one of its commands is refused.
pub record IsRowStopped (rows : List Packed) (v : Volume) (at : ℕ) (r : Refusal) : Type 0 where
  pub before : List Packed
  pub row : Packed
  pub later : List Packed
  pub are : rows ≡ before ++ row ∷ later
  pub many : length before ≡ at
  pub volume : Volume
  pub led : Lead (commands before) v volume
  pub stopped : AreStopped (row_commands row) volume r
