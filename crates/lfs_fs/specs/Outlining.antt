-- Images that have an outline (own).
use Rattle.std.specs.Prelude.{◌≡◌}
use Rattle.lfs_block.specs.Disk.{Disk}
use Rattle.lfs_fs.specs.Volume.{Volume}
use Rattle.lfs_fs.specs.Mounted.{IsOutlineOf}

-- there is an outline of the image
abbrev pub HasOutline : Disk → Type 0
HasOutline d = (o : Volume) × IsOutlineOf d o

-- each outline of the image is this one
abbrev pub IsEachOutline : Disk → Volume → Type 0
IsEachOutline d outline = (o : Volume) → IsOutlineOf d o → outline ≡ o
