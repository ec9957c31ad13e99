-- An image mounts to a tree (own).
use Rattle.std.specs.Prelude.{◌≡◌, Option}
use Rattle.lfs_block.specs.Disk.{Disk, IsDisk}
use Rattle.lfs_block.specs.declared.mount_fault.MountFault.{MountFault}
use Rattle.lfs_fs.specs.Path.{Path}
use Rattle.lfs_fs.specs.Volume.{Volume}
use Rattle.lfs_fs.specs.Tree.{Node, tree}
use Rattle.lfs_fs.specs.Sound.{IsSound}
use Rattle.lfs_fs.specs.Reading.{reading_of}
use Rattle.lfs_fs.specs.Holds.{Holds}
use Rattle.lfs_fs.specs.Cause.{HasCause, IsOfFormat, HasNoCause}

-- it holds a sound volume, which has this tree
abbrev pub Mounts : Disk → (Path → Option Node) → Type 0
Mounts d t = (v : Volume) × Holds (reading_of d) v × IsSound v × ((p : Path) → t p ≡ tree v p)

-- the law: an image mounts to one tree
abbrev pub TreesAreOne : Type 0
TreesAreOne = (d : Disk) (t u : Path → Option Node) → Mounts d t → Mounts d u → (p : Path) → t p ≡ u p

-- the law: an image that mounts has none of the causes
abbrev pub MountedHaveNoCause : Type 0
MountedHaveNoCause = (d : Disk) (t : Path → Option Node) (fault : MountFault) → IsDisk d → Mounts d t → IsOfFormat fault → HasCause d fault
    → ⊥

-- the law: an image that has none of the causes mounts. The tree isn't searched for: it can't be that there is none
abbrev pub WithoutCauseMount : Type 0
WithoutCauseMount = (d : Disk) → IsDisk d → HasNoCause d → ¬ ¬ ((t : Path → Option Node) × Mounts d t)
