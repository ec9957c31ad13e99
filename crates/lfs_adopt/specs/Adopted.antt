-- An image that a device wrote, taken over (own).
use Rattle.std.specs.Prelude.{ℕ, ◌≡◌, ◌⊎◌, ◌↔◌, Contains}
use Rattle.lfs_block.specs.Disk.{Disk, IsDisk, block_of}
use Rattle.lfs_fs.specs.Front.{pairs_name}
use Rattle.lfs_fs.specs.Holds.{Holds}
use Rattle.lfs_fs.specs.Reading.{Reading, reading_of}
use Rattle.lfs_fs.specs.Sound.{IsSound}
use Rattle.lfs_fs.specs.Volume.{Volume}
use Rattle.lfs_lower.specs.Alone.{IsAlone, IsLeft}
use Rattle.lfs_lower.specs.LaterReading.{later_part_of, later_reading_of}
use Rattle.lfs_meta.specs.Body.{Pair}
use Rattle.lfs_meta.specs.LiveBlock.{stored_part_of}
use Rattle.lfs_settle.specs.InStep.{thread_pairs}
use Rattle.lfs_settle.specs.Relaid.{device_reading_of}
use Rattle.lfs_adopt.specs.Laws.{HoldsTheTreeOf}
use Rattle.lfs_adopt.specs.Tidied.{tidied}

-- how an image is read that is taken over: as a device reads it, and tidied then
abbrev pub adopted_reading_of : Disk → Reading
adopted_reading_of d = tidied (device_reading_of d)

-- The pairs of the thread that is read so hold what they count as, and no older state of them can be taken, unless both versions read the
-- same of them. All other blocks are as they were.
pub record IsAdoptedImage (d e : Disk) : Type 0 where
  pub disk : IsDisk e
  pub size : e.size ≡ d.size
  pub count : e.count ≡ d.count
  pub held : (p : Pair) → Contains (thread_pairs (adopted_reading_of d)) p → stored_part_of e p ≡ (adopted_reading_of d).part p
  pub alone : (p : Pair) → Contains (thread_pairs (adopted_reading_of d)) p → IsLeft d e p ⊎ IsAlone e p
  pub others : (b : ℕ) → pairs_name b (thread_pairs (adopted_reading_of d)) ≡ 0 → block_of e b ≡ block_of d b

-- the law: it holds the sound volumes that are read so in the other image, and no other
abbrev pub AdoptedImagesHoldWhatIsAdopted : Type 0
AdoptedImagesHoldWhatIsAdopted = (d e : Disk) (v : Volume) → IsDisk d → IsAdoptedImage d e → IsSound v
    → Holds (reading_of e) v ↔ Holds (adopted_reading_of d) v

-- the law: of what a device reads in the other image, if that is a sound volume, it holds the tree
abbrev pub AdoptedImagesKeepTheTree : Type 0
AdoptedImagesKeepTheTree = (d e : Disk) (v : Volume) → IsDisk d → IsAdoptedImage d e → IsSound v → Holds (device_reading_of d) v
    → HoldsTheTreeOf (reading_of e) v

-- the law: of what version 2.1 reads in the other image, if that is a sound volume, it holds the tree
abbrev pub SoundVolumesKeepTheTree : Type 0
SoundVolumesKeepTheTree = (d e : Disk) (v : Volume) → IsDisk d → IsAdoptedImage d e → IsSound v → Holds (later_reading_of d) v
    → HoldsTheTreeOf (reading_of e) v

-- both versions read the same of the pairs along the thread
abbrev pub BothReadTheSame : Disk → Type 0
BothReadTheSame d = (p : Pair) → Contains (thread_pairs (reading_of d)) p → later_part_of d p ≡ stored_part_of d p

-- the law: if it is taken over again, the tree that a device read at first stays
abbrev pub AdoptedOnce : Type 0
AdoptedOnce = (d e f : Disk) (v : Volume) → IsDisk d → IsAdoptedImage d e → IsAdoptedImage e f → BothReadTheSame e → IsSound v
    → Holds (device_reading_of d) v → HoldsTheTreeOf (reading_of f) v
