-- An image that is lengthened holds what it held (own).
use Rattle.std.specs.Prelude.{◌≡◌, ℕ, ◌≤◌, List, All}
use Rattle.lfs_block.specs.Disk.{Disk, IsDisk, resized}
use Rattle.lfs_block.specs.Geometry.{IsGeometry}
use Rattle.lfs_fs.specs.Reading.{Reading, reading_of}
use Rattle.lfs_fs.specs.Sound.{IsSound}
use Rattle.lfs_fs.specs.Stored.{HoldsLinks, IsStored}
use Rattle.lfs_fs.specs.Thread.{links}
use Rattle.lfs_fs.specs.Volume.{Volume}

-- the image holds each link of the volume, with a superblock of these bytes, whatever they say
pub record HoldsParts (r : Reading) (v : Volume) (bytes : List ℕ) : Type 0 where
  pub size : v.size ≡ r.size
  pub count : v.count ≡ r.count
  pub each : All (IsStored r bytes v.attributes) (links v.directories)

-- the volume with so many blocks
abbrev pub with_count : ℕ → Volume → Volume
with_count n v = record { size = v.size; count = n; limits = v.limits; attributes = v.attributes; directories = v.directories }

-- the law: a lengthened image holds the same links, with the superblock as it was
abbrev pub LengthenedImagesHold : Type 0
LengthenedImagesHold = (d : Disk) (v : Volume) (held : HoldsLinks (reading_of d) v) (n : ℕ) → IsDisk d → IsSound v → IsGeometry d.size n
    → d.count ≤ n
    → HoldsParts (reading_of (resized n d)) (with_count n v) held.bytes
