-- An image under a patch: as the patch leaves it, or as it was before (own).
use Rattle.std.specs.Prelude.{◌≡◌, ℕ, List}
use Rattle.lfs_block.specs.Change.{Change}
use Rattle.lfs_block.specs.Disk.{Disk, IsDisk, erased_block}
use Rattle.lfs_block.specs.Patch.{ChangeSet, IsPatch, applied, reverted}
use Rattle.lfs_block.specs.declared.side.Side.{Side}
use Rattle.lfs_block.specs.declared.side.Side.TheVariants.{Old, New}

-- the disk on one side of a patch that lies on it
abbrev pub laid_side : Side → ChangeSet → Disk → Disk
laid_side Old p d = reverted p d
laid_side New p d = applied p d

-- how many blocks it has there
abbrev pub count_of : Side → ChangeSet → ℕ
count_of Old p = p.before
count_of New p = p.after

-- a block's bytes on one side of its change
abbrev pub side_of : Side → Change → List ℕ
side_of Old c = c.old
side_of New c = c.new

-- a patch of blocks of a disk's size, and an erased block of that size
pub record IsOverlay (p : ChangeSet) (block : List ℕ) (d : Disk) : Type 0 where
  pub patch : IsPatch p
  pub size : p.size ≡ d.size
  pub erased : block ≡ erased_block d.size
  pub disk : IsDisk d
