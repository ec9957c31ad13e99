-- How many bytes of a file the blocks of a skip-list hold (DESIGN.md, "CTZ skip-lists").
use Rattle.std.specs.Prelude.{ℕ, zero, suc, ◌+◌, ◌-◌, ◌*◌, ◌<◌, ◌≤◌, ◌==◌, nat_le, if◌then◌else◌, map, sum}
use Rattle.std.specs.Int.{w32, trailing_zeros}
use Rattle.std.specs.List.{range_with_len}

-- the pointers in front of block n: none in block 0, and in a later one a pointer for each power of two that divides n
abbrev pub pointers : ℕ → ℕ
pointers n = if n == 0 then 0 else trailing_zeros w32 n + 1

-- the bytes of the file in block n: what its pointers, of 4 bytes each, leave of the block
abbrev pub capacity : ℕ → ℕ → ℕ
capacity size n = size - 4 * pointers n

-- the bytes that the first n blocks hold
abbrev pub bytes_of_blocks : ℕ → ℕ → ℕ
bytes_of_blocks size n = sum (map (capacity size) (range_with_len 0 n))

-- n blocks hold len bytes, and no fewer blocks do
abbrev pub IsLeast : ℕ → ℕ → ℕ → Type 0
IsLeast size len n = (len ≤ bytes_of_blocks size n) × ((k : ℕ) → k < n → bytes_of_blocks size k < len)

-- the first number of blocks, from n on, that holds len bytes; n + steps where none below it does (own)
unfoldable pub least_from : ℕ → ℕ → ℕ → ℕ → ℕ
least_from size len n zero = n
least_from size len n (suc steps) = if nat_le len (bytes_of_blocks size n) then n else least_from size len (n + 1) steps

-- the least number of blocks that holds len bytes (own): never more than len, since two blocks in a row hold 4 bytes or more
unfoldable pub least_blocks : ℕ → ℕ → ℕ
least_blocks size len = least_from size len 0 len
