-- An image spelled anew along its thread (own).
use Rattle.std.specs.Prelude.{ℕ, ◌≡◌, ◌↔◌, List, [], ◌∷◌, ◌++◌, Contains}
use Rattle.lfs_block.specs.Disk.{Disk, IsDisk, block_of}
use Rattle.lfs_file.specs.SkipList.{chain_of}
use Rattle.lfs_file.specs.Content.{content}
use Rattle.lfs_meta.specs.Body.{Pair}
use Rattle.lfs_meta.specs.LiveBlock.{stored_part_of}
use Rattle.lfs_fs.specs.Front.{IsFront, pairs_name}
use Rattle.lfs_fs.specs.Holds.{Holds}
use Rattle.lfs_fs.specs.Reading.{Reading, reading_of}
use Rattle.lfs_fs.specs.Sound.{IsSound}
use Rattle.lfs_fs.specs.Volume.{Volume}

-- a reading of a disk that differs from that of version 2.0 in parts alone
pub record ReadsBlocks (d : Disk) (r : Reading) : Type 0 where
  pub size : r.size ≡ d.size
  pub count : r.count ≡ d.count
  pub chain : r.chain ≡ chain_of d
  pub content : r.content ≡ content d

-- The pairs of the longest front of a reading hold in the other image what they hold by that reading; blocks of no such pair are as they
-- were.
pub record IsSpelledAnew (d : Disk) (r : Reading) (e : Disk) : Type 0 where
  pub disk : IsDisk e
  pub size : e.size ≡ d.size
  pub count : e.count ≡ d.count
  pub front : List Pair
  pub is_front : IsFront r front
  pub longest : (p : Pair) → IsFront r (front ++ p ∷ []) → ⊥
  pub held : (p : Pair) → Contains front p → stored_part_of e p ≡ r.part p
  pub others : (b : ℕ) → pairs_name b front ≡ 0 → block_of e b ≡ block_of d b

-- the law: it holds the sound volumes of that reading, and no other
abbrev pub SpelledAnewHoldWhatIsRead : Type 0
SpelledAnewHoldWhatIsRead = (d : Disk) (r : Reading) (e : Disk) (v : Volume) → IsDisk d → ReadsBlocks d r → IsSpelledAnew d r e → IsSound v
    → Holds (reading_of e) v ↔ Holds r v
