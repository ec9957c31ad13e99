-- An image all of whose blocks are lowered, whatever its thread is (own).
use Rattle.std.specs.Prelude.{ℕ, ◌≡◌, ◌<◌, ◌≤◌}
use Rattle.lfs_block.specs.Disk.{Disk, IsDisk, block_of}
use Rattle.lfs_meta.specs.Body.{Pair}
use Rattle.lfs_meta.specs.LiveBlock.{stored_part_of}
use Rattle.lfs_lower.specs.LaterReading.{later_part_of}
use Rattle.lfs_lower.specs.Spelled.{is_root_block, lowered_block}

-- the other image with each block below this one lowered
pub record IsLoweredBelow (d e : Disk) (n : ℕ) : Type 0 where
  pub disk : IsDisk e
  pub size : e.size ≡ d.size
  pub count : e.count ≡ d.count
  pub lowered : (b : ℕ) → b < n → block_of e b ≡ lowered_block (is_root_block b) (block_of d b)
  pub others : (b : ℕ) → n ≤ b → block_of e b ≡ block_of d b

-- with each of its blocks
abbrev pub IsLoweredThrough : Disk → Disk → Type 0
IsLoweredThrough d e = IsLoweredBelow d e d.count

-- the law: of such an image a pair holds what version 2.1 reads of it
abbrev pub LoweredPairsAreRead : Type 0
LoweredPairsAreRead = (d e : Disk) (pair : Pair) → IsDisk d → IsLoweredThrough d e → pair.0 < d.count → pair.1 < d.count
    → stored_part_of e pair ≡ later_part_of d pair
