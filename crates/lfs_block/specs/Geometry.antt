-- The block sizes and counts that are edited (own).
use Rattle.std.specs.Prelude.{◌≡◌, ℕ, ◌*◌, ◌%◌, ◌==◌, ◌&&◌, ◌≤◌, Bool, nat_le}

-- each block size is a multiple of so many bytes
abbrev pub block_size_step : ℕ
block_size_step = 16

-- a block size, in bytes
abbrev pub IsBlockSize : ℕ → Type 0
IsBlockSize size = (256 ≤ size) × (size ≤ 65536) × (size % block_size_step ≡ 0)

-- an image's block size, and its number of blocks
pub record IsGeometry (size count : ℕ) : Type 0 where
  pub size_fits : IsBlockSize size
  pub count_fits : (2 ≤ count) × (count ≤ 65536)
  pub length_fits : count * size ≤ 67108864

-- the same as a test
abbrev pub is_geometry : ℕ → ℕ → Bool
is_geometry size count =
    nat_le 256 size && nat_le size 65536 && (size % block_size_step == 0) && nat_le 2 count && nat_le count 65536 && nat_le (count * size) 67108864
