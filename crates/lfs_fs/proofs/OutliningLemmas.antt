-- The one outline of an image.
use Rattle.std.proofs.Common.{ap, sym, ◌∙◌}
use Rattle.lfs_block.specs.Disk.{Disk}
use Rattle.lfs_fs.specs.Volume.{Volume}
use Rattle.lfs_fs.specs.Outlined.{outlined}
use Rattle.lfs_fs.specs.Reading.{reading_of}
use Rattle.lfs_fs.specs.Holds.{VolumesAreOne}
use Rattle.lfs_fs.specs.Mounted.{MountedValue, IsMountOf, IsOutlineOf}
use Rattle.lfs_fs.specs.Outlining.{IsEachOutline}

pub mounted_outline : (d : Disk) (m : MountedValue) → IsMountOf d m → IsOutlineOf d m.outline
mounted_outline d m is = record { volume = is.volume; holds = is.holds; sound = is.sound; outline = is.outline }

pub one_outline : VolumesAreOne → (d : Disk) (o : Volume) → IsOutlineOf d o → IsEachOutline d o
one_outline one d o is p other = is.outline ∙ ap outlined (one (reading_of d) is.volume other.volume is.holds other.holds)
    ∙ sym other.outline
