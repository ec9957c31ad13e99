-- An image with one superblock made of one whose superblock was expanded (own).
use Rattle.std.specs.Prelude.{ℕ, ◌≡◌, ◌⊎◌, Contains}
use Rattle.lfs_block.specs.Disk.{Disk, IsDisk, block_of}
use Rattle.lfs_meta.specs.Body.{Pair}
use Rattle.lfs_meta.specs.LiveBlock.{stored_part_of}
use Rattle.lfs_fs.specs.Front.{pairs_name}
use Rattle.lfs_fs.specs.Holds.{Holds}
use Rattle.lfs_fs.specs.Reading.{Reading, reading_of}
use Rattle.lfs_fs.specs.Volume.{Volume}
use Rattle.lfs_lower.specs.Alone.{IsAlone, IsSame}
use Rattle.lfs_lower.specs.OneSuperblock.{one_superblock, superblock_pairs}

-- The pairs of its superblocks hold what they count as, and no older state of them can be taken, unless they are as they were. All other
-- blocks are as they were.
pub record IsJoinedImage (d e : Disk) : Type 0 where
  pub disk : IsDisk e
  pub size : e.size ≡ d.size
  pub count : e.count ≡ d.count
  pub held : (p : Pair) → Contains (superblock_pairs (reading_of d)) p → stored_part_of e p ≡ (one_superblock (reading_of d)).part p
  pub alone : (p : Pair) → Contains (superblock_pairs (reading_of d)) p → IsSame d e p ⊎ IsAlone e p
  pub others : (b : ℕ) → pairs_name b (superblock_pairs (reading_of d)) ≡ 0 → block_of e b ≡ block_of d b

-- the law: what an image holds whose superblock stands once, it holds as before
abbrev pub OneSuperblockStays : Type 0
OneSuperblockStays = (r : Reading) (v : Volume) → Holds r v → Holds (one_superblock r) v
