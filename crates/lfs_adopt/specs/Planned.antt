-- What tidies an image (own).
use Rattle.std.specs.Prelude.{◌≡◌, List, All}
use Rattle.lfs_block.specs.Disk.{Disk}
use Rattle.lfs_fs.specs.Gathering.{PairPart}
use Rattle.lfs_fs.specs.Reading.{reading_of}
use Rattle.lfs_lower.specs.Joining.{CanPut}
use Rattle.lfs_adopt.specs.Tidied.{parts_to_put}

-- the parts that are to be put, each of which can be
pub record ArePlanned (d : Disk) (changed : List PairPart) : Type 0 where
  pub changed_are : changed ≡ parts_to_put (reading_of d)
  pub can : All (CanPut d) changed
