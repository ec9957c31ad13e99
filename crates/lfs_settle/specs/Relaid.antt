-- An image as a device reads it: settled, and with one superblock (own).
use Rattle.std.specs.Prelude.{◌↔◌}
use Rattle.lfs_block.specs.Disk.{Disk, IsDisk}
use Rattle.lfs_fs.specs.Holds.{Holds}
use Rattle.lfs_fs.specs.Reading.{Reading, reading_of}
use Rattle.lfs_fs.specs.Sound.{IsSound}
use Rattle.lfs_fs.specs.Volume.{Volume}
use Rattle.lfs_lower.specs.Joined.{IsJoinedImage}
use Rattle.lfs_lower.specs.OneSuperblock.{one_superblock}
use Rattle.lfs_settle.specs.Settled.{IsSettledImage, settled_reading_of}

-- how a device reads an image, its superblock expanded or not
abbrev pub device_reading_of : Disk → Reading
device_reading_of d = one_superblock (settled_reading_of d)

-- settled, and then joined
pub record IsRelaidImage (d f : Disk) : Type 0 where
  pub between : Disk
  pub settled : IsSettledImage d between
  pub joined : IsJoinedImage between f

-- the law: it holds the sound volumes that a device reads in the other one, and no other
abbrev pub RelaidImagesHoldWhatIsRead : Type 0
RelaidImagesHoldWhatIsRead = (d f : Disk) (v : Volume) → IsDisk d → IsRelaidImage d f → IsSound v
    → Holds (reading_of f) v ↔ Holds (device_reading_of d) v
