-- What stands at a path of a mounted image, and why nothing does, or no directory (own).
use Rattle.std.specs.Prelude.{◌≡◌, ℕ, true, not, List, [], ◌∷◌, Option, is_none, is_some}
use Rattle.lfs_block.specs.Disk.{Disk}
use Rattle.lfs_command.specs.declared.refusal.Refusal.{Refusal}
use Rattle.lfs_command.specs.declared.refusal.Refusal.TheVariants.{NotADirectory, NotFound}
use Rattle.lfs_command.specs.PathRefused.{RefusesPath}
use Rattle.lfs_command.specs.Verdict.{is_directory, refuse_if, walk_refusal}
use Rattle.lfs_fs.specs.Mounted.{MountedValue, IsMountOf}
use Rattle.lfs_fs.specs.Path.{Path, IsPathText}
use Rattle.lfs_fs.specs.Tree.{Node, tree}

-- ---- something

-- the text spells a path, at which the tree of a mounted image has something
pub record IsPathThere (d : Disk) (m : MountedValue) (text : List ℕ) (at : Path) : Type 0 where
  pub spelled : IsPathText text at
  pub there : (is : IsMountOf d m) → is_some (tree is.volume at) ≡ true

-- the checks of a path at which something is to be: the walk, and whether something is there
abbrev pub standing_checks : (Path → Option Node) → Path → List (Option Refusal)
standing_checks tree p = walk_refusal tree [] p ∷ refuse_if (is_none (tree p)) NotFound ∷ []

-- why there is none
abbrev pub RefusesListing : Disk → List ℕ → Refusal → Type 0
RefusesListing d path r = RefusesPath standing_checks d path r

-- ---- a directory

-- the text spells a path, at which the tree of a mounted image has a directory
pub record IsDirectoryThere (d : Disk) (m : MountedValue) (text : List ℕ) (at : Path) : Type 0 where
  pub spelled : IsPathText text at
  pub there : (is : IsMountOf d m) → is_directory (tree is.volume at) ≡ true

-- the checks of a path at which a directory is to be: the walk, whether something is there, and whether it is no directory
abbrev pub directory_checks : (Path → Option Node) → Path → List (Option Refusal)
directory_checks tree p =
    walk_refusal tree [] p
    ∷ refuse_if (is_none (tree p)) NotFound
    ∷ refuse_if (not (is_directory (tree p))) NotADirectory
    ∷ []

-- why there is none
abbrev pub RefusesDirectory : Disk → List ℕ → Refusal → Type 0
RefusesDirectory d path r = RefusesPath directory_checks d path r
