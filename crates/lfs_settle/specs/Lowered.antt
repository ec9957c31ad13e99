-- Pairs of an image lowered (own).
use Rattle.std.specs.Prelude.{ℕ, ◌≡◌, ◌⊎◌, List, Contains}
use Rattle.lfs_block.specs.Disk.{Disk, IsDisk, block_of}
use Rattle.lfs_meta.specs.Body.{Pair}
use Rattle.lfs_meta.specs.LiveBlock.{stored_part_of}
use Rattle.lfs_fs.specs.Front.{pairs_name}
use Rattle.lfs_lower.specs.Alone.{IsAlone, IsLeft}
use Rattle.lfs_lower.specs.LaterReading.{later_part_of}

-- These pairs hold what version 2.1 reads of them, and no older state of them can be taken, unless they said that before. All blocks but
-- theirs are as they were.
pub record ArePairsLowered (d e : Disk) (ps : List Pair) : Type 0 where
  pub disk : IsDisk e
  pub size : e.size ≡ d.size
  pub count : e.count ≡ d.count
  pub held : (p : Pair) → Contains ps p → stored_part_of e p ≡ later_part_of d p
  pub alone : (p : Pair) → Contains ps p → IsLeft d e p ⊎ IsAlone e p
  pub others : (b : ℕ) → pairs_name b ps ≡ 0 → block_of e b ≡ block_of d b
