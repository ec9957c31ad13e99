-- The steps by which an image is taken over (own).
use Rattle.std.specs.Prelude.{ℕ, ◌≡◌, ◌≢◌, ◌<◌, ◌≤◌, Bool, true, false, List, length, slice_index_or}
use Rattle.lfs_block.specs.Disk.{Disk, IsDisk, block_of}
use Rattle.lfs_fs.specs.Front.{pairs_name}
use Rattle.lfs_meta.specs.Body.{Pair}
use Rattle.lfs_settle.specs.Relaid.{IsRelaidImage}
use Rattle.lfs_adopt.specs.Tidied.{IsTidiedImage}

-- an image settled, joined and tidied
pub record IsRewrittenImage (d e : Disk) : Type 0 where
  pub between : Disk
  pub relaid : IsRelaidImage d between
  pub tidied : IsTidiedImage between e

-- a table has a flag for each block, which is set if pairs name the block
pub record AreFlagged (count : ℕ) (ps : List Pair) (flags : List Bool) : Type 0 where
  pub len : length flags ≡ count
  pub named : (b : ℕ) → 0 < pairs_name b ps → slice_index_or flags b false ≡ true
  pub unnamed : (b : ℕ) → pairs_name b ps ≡ 0 → slice_index_or flags b false ≡ false

-- Of the blocks below this one, those with a flag are another image's. All others are as they were.
pub record AreTaken (d other e : Disk) (flags : List Bool) (n : ℕ) : Type 0 where
  pub disk : IsDisk e
  pub size : e.size ≡ d.size
  pub count : e.count ≡ d.count
  pub flagged : (b : ℕ) → b < n → slice_index_or flags b false ≡ true → block_of e b ≡ block_of other b
  pub unflagged : (b : ℕ) → slice_index_or flags b false ≡ false → block_of e b ≡ block_of d b
  pub above : (b : ℕ) → n ≤ b → block_of e b ≡ block_of d b

-- one block holds these bytes, and all others stay
pub record HasTaken (n : ℕ) (block : List ℕ) (d e : Disk) : Type 0 where
  pub disk : IsDisk e
  pub size : e.size ≡ d.size
  pub count : e.count ≡ d.count
  pub here : block_of e n ≡ block
  pub others : (b : ℕ) → b ≢ n → block_of e b ≡ block_of d b
