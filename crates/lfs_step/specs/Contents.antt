-- The contents of a file at a path of an image, and why there are none (own).
use Rattle.std.specs.Prelude.{◌≡◌, ℕ, List, [], ◌∷◌, Option, Some, is_none}
use Rattle.lfs_block.specs.Disk.{Disk}
use Rattle.lfs_meta.specs.Attribute.{Attributes}
use Rattle.lfs_fs.specs.Path.{Path, IsPathText}
use Rattle.lfs_fs.specs.Volume.{Volume}
use Rattle.lfs_fs.specs.Tree.{Node, File, tree}
use Rattle.lfs_fs.specs.Sound.{IsSound}
use Rattle.lfs_fs.specs.Reading.{reading_of}
use Rattle.lfs_fs.specs.Holds.{Holds}
use Rattle.lfs_command.specs.declared.refusal.Refusal.{Refusal}
use Rattle.lfs_command.specs.declared.refusal.Refusal.TheVariants.{NotFound, IsADirectory}
use Rattle.lfs_command.specs.PathRefused.{RefusesPath}
use Rattle.lfs_command.specs.Verdict.{refuse_if, walk_refusal, is_directory}

-- The text spells a path, at which the tree of the image has a file with these bytes.
pub record IsContents (d : Disk) (text bytes : List ℕ) : Type 0 where
  pub volume : Volume
  pub holds : Holds (reading_of d) volume
  pub sound : IsSound volume
  pub path : Path
  pub spelled : IsPathText text path
  pub attributes : Attributes
  pub there : tree volume path ≡ Some (File bytes attributes)

-- the checks of reading, in their order: the walk, whether something is there, and whether it is a directory
abbrev pub reading_checks : (Path → Option Node) → Path → List (Option Refusal)
reading_checks tree p =
    walk_refusal tree [] p
    ∷ refuse_if (is_none (tree p)) NotFound
    ∷ refuse_if (is_directory (tree p)) IsADirectory
    ∷ []

-- why no contents are given
abbrev pub RefusesContents : Disk → List ℕ → Refusal → Type 0
RefusesContents d text r = RefusesPath reading_checks d text r
