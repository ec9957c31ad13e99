-- Rows of what stands at a path and below it, of an image and of a folder (own).
use Rattle.std.specs.Prelude.{◌≡◌, ℕ, true, List, [], ◌∷◌, ◌++◌, Option, Some, None, All, if◌then◌else◌}
use Rattle.std.specs.List.{AllByRecursion}
use Rattle.lfs_block.specs.Disk.{Disk}
use Rattle.lfs_meta.specs.Name.{IsName}
use Rattle.lfs_extract.specs.FolderRows.{PathRow}
use Rattle.lfs_fs.specs.Path.{Path}
use Rattle.lfs_fs.specs.Row.{Row, path_precedes}
use Rattle.lfs_fs.specs.RowShown.{shown_node}
use Rattle.lfs_fs.specs.Tree.{Node, File, Dir}
use Rattle.lfs_command.specs.PathMap.{below, same_path}

-- a path below where it is synced, and what stands there
pub record Shown : Type 0 where
  pub path : Path
  pub node : Node

-- each path comes before all later ones
abbrev pub ShownRise : List Shown → Type 0
ShownRise [] = Unit {0}
ShownRise (r ∷ rs) = All (λ s. path_precedes r.path s.path ≡ true) rs × ShownRise rs

-- what rows have at a path
abbrev pub shown_at : List Shown → Path → Option Node
shown_at [] p = None
shown_at (r ∷ rs) p = if same_path r.path p then Some r.node else shown_at rs p

-- ---- an image's

-- a row of an image in front of others, if it is at or below a path, of which this is left
abbrev pub held_by : Disk → Row → Option Path → List Shown → List Shown
held_by d r None more = more
held_by d r (Some rest) more = record { path = rest; node = shown_node d r.entry } ∷ more

-- the rows of an image at and below a path, as its disk shows them
abbrev pub held_of : Disk → Path → List Row → List Shown
held_of d at [] = []
held_of d at (r ∷ rs) = held_by d r (below at r.path) (held_of d at rs)

-- those of a tree at and below a path
pub record AreHeld (tree : Path → Option Node) (at : Path) (held : List Shown) : Type 0 where
  pub rise : ShownRise held
  pub right : AllByRecursion (λ r. tree (at ++ r.path) ≡ Some r.node) held
  pub complete : (rest : Path) → shown_at held rest ≡ tree (at ++ rest)

-- ---- a folder's

-- what a folder has at a path: a file's bytes, or none of a folder in it
abbrev pub wanted_node : Option (List ℕ) → Node
wanted_node None = Dir []
wanted_node (Some bytes) = File bytes []

-- a row of a host's folder
abbrev pub wanted_of : PathRow → Shown
wanted_of r = record { path = r.path; node = wanted_node r.bytes }

-- a folder's rows have no attributes
abbrev pub IsBare : Node → Type 0
IsBare (File bytes a) = a ≡ []
IsBare (Dir a) = a ≡ []

-- those of a folder: a directory first, and each in a directory that is there
pub record AreWanted (wanted : List Shown) : Type 0 where
  pub rise : ShownRise wanted
  pub right : AllByRecursion (λ r. shown_at wanted r.path ≡ Some r.node) wanted
  pub names : All (λ r. All IsName r.path) wanted
  pub root : shown_at wanted [] ≡ Some (Dir [])
  pub bare : AllByRecursion (λ r. IsBare r.node) wanted
  pub inside : (p : Path) (n : List ℕ) (x : Node) → shown_at wanted (p ++ n ∷ []) ≡ Some x → shown_at wanted p ≡ Some (Dir [])
