-- An image of a volume whose parts are all new (own).
use Rattle.std.specs.Prelude.{ℕ, ◌≡◌, ◌<◌, replicate}
use Rattle.lfs_block.specs.Disk.{Disk, block_of}
use Rattle.lfs_fs.specs.Holds.{Holds}
use Rattle.lfs_fs.specs.Reading.{reading_of}
use Rattle.lfs_fs.specs.Sound.{IsSound}
use Rattle.lfs_fs.specs.Uses.{uses}
use Rattle.lfs_fs.specs.Volume.{Volume}
use Rattle.lfs_pack.specs.NewImages.{AllAreLaid, AreFilled}

-- each block that a volume doesn't use is erased
abbrev pub AreErasedBeside : Volume → Disk → Type 0
AreErasedBeside v d = (b : ℕ) → b < d.count → uses b v ≡ 0 → block_of d b ≡ replicate d.size 0xff

-- An image holds the volume: each part alone in the first block of its pair, beside an erased one, and the contents of files in their
-- blocks, after which these are erased, as is what isn't used.
pub record IsNewImageOf (v : Volume) (d : Disk) : Type 0 where
  pub holds : Holds (reading_of d) v
  pub sound : IsSound v
  pub size : v.size ≡ d.size
  pub count : v.count ≡ d.count
  pub filled : AreFilled d v
  pub laid : AllAreLaid d v
  pub erased : AreErasedBeside v d
