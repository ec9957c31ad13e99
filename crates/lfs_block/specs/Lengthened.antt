-- An image with more blocks behind its end (own).
use Rattle.std.specs.Prelude.{◌≡◌, ℕ, ◌≤◌, List}
use Rattle.lfs_block.specs.Disk.{Disk, IsDisk, erased_block}
use Rattle.lfs_block.specs.Geometry.{IsGeometry}

-- a number of blocks that an image of the disk's block size may have, not less than it has, and an erased block of that size
pub record Lengthens (d : Disk) (count : ℕ) (block : List ℕ) : Type 0 where
  pub disk : IsDisk d
  pub geometry : IsGeometry d.size count
  pub rise : d.count ≤ count
  pub erased : block ≡ erased_block d.size
