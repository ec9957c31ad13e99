-- What is made of an image is what its tree has (own).
use Rattle.std.specs.Prelude.{◌≡◌, ◌++◌, ℕ, List, Option, Some, Contains}
use Rattle.std.specs.List.{AllZip}
use Rattle.lfs_block.specs.Disk.{Disk}
use Rattle.lfs_fs.specs.Path.{Path}
use Rattle.lfs_fs.specs.Tree.{Node}
use Rattle.lfs_fs.specs.Mounts.{Mounts}
use Rattle.lfs_fs.specs.Ordered.{PathsRise}
use Rattle.lfs_extract.specs.PathBelow.{host_name}
use Rattle.lfs_host.specs.NewFolder.{Made}
use Rattle.lfs_extract.specs.Extracted.{made_node}

-- below a path a tree has something where this is left, and this is made of it, under the host's name of what is left
abbrev pub IsMadeAt : (Path → Option Node) → Path → List ℕ → Path → Made → Type 0
IsMadeAt t at dir rest made = (x : Node) × (t (at ++ rest) ≡ Some x) × (made ≡ made_node (host_name dir rest) x)

-- an image mounts to a tree, and these are made of what the tree has at a path and at each below it, each once, in the order of paths
pub record AreOfTree (d : Disk) (at : Path) (dir : List ℕ) (made : List Made) : Type 0 where
  pub there : Path → Option Node
  pub mounts : Mounts d there
  pub paths : List Path
  pub rise : PathsRise paths
  pub complete : (rest : Path) (x : Node) → there (at ++ rest) ≡ Some x → Contains paths rest
  pub each : AllZip (IsMadeAt there at dir) paths made
