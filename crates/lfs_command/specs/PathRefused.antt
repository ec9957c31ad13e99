-- Why nothing is answered of a path of an image (own).
use Rattle.std.specs.Prelude.{◌≡◌, ℕ, List, Option, Some}
use Rattle.lfs_block.specs.Disk.{Disk}
use Rattle.lfs_fs.specs.Path.{Path, IsPathText, IsNoPath}
use Rattle.lfs_fs.specs.Volume.{Volume}
use Rattle.lfs_fs.specs.Tree.{Node, tree}
use Rattle.lfs_fs.specs.Sound.{IsSound}
use Rattle.lfs_fs.specs.Reading.{reading_of}
use Rattle.lfs_fs.specs.Holds.{Holds}
use Rattle.lfs_command.specs.declared.refusal.Refusal.{Refusal}
use Rattle.lfs_command.specs.declared.refusal.Refusal.TheVariants.{BadPath, Memory}
use Rattle.lfs_command.specs.Verdict.{first_refusal}

-- checks of a tree at a path
abbrev pub Checks : Type 0
Checks = (Path → Option Node) → Path → List (Option Refusal)

-- The text spells a path, for which one of the checks refuses the tree of the image.
pub record FailsCheck (checks : Checks) (d : Disk) (text : List ℕ) (r : Refusal) : Type 0 where
  pub volume : Volume
  pub holds : Holds (reading_of d) volume
  pub sound : IsSound volume
  pub path : Path
  pub spelled : IsPathText text path
  pub refused : first_refusal (checks (tree volume) path) ≡ Some r

-- why nothing is answered of a path: a text that spells none, the first check that refuses, or want of memory
abbrev pub RefusesPath : Checks → Disk → List ℕ → Refusal → Type 0
RefusesPath checks d text BadPath = IsNoPath text
RefusesPath checks d text Memory = Unit {0}
RefusesPath checks d text r = FailsCheck checks d text r
