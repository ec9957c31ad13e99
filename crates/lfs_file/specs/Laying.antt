-- The blocks of a file as they are written (littlefs disk version 2.0).
use Rattle.std.specs.Prelude.{◌≡◌, ◌≢◌, ℕ, ◌-◌, ◌^◌, ◌<◌, List, ◌++◌, length, map, slice_index, slice_get, take, drop, replicate, Some, All}
use Rattle.std.specs.Prelude.{AllPairs}
use Rattle.std.specs.Int.{w32, to_le_bytes}
use Rattle.std.specs.List.{concat, range_with_len}
use Rattle.lfs_block.specs.Disk.{Disk, block_of}
use Rattle.lfs_file.specs.Capacity.{capacity, least_blocks, pointers, bytes_of_blocks}

-- the first k pointers of block n of a chain: pointer i names the block 2 ^ i before it, low byte first
unfoldable pub laid_pointers : List ℕ → ℕ → ℕ → List ℕ
laid_pointers blocks n k = concat (map (λ i. to_le_bytes w32 (slice_index blocks (n - 2 ^ i))) (range_with_len 0 k))

-- block n of a chain with these bytes of its file: its pointers, the bytes, and 0xff up to the block size
unfoldable pub filled : ℕ → List ℕ → List ℕ → ℕ → List ℕ
filled size part blocks n = laid_pointers blocks n (pointers n) ++ part ++ replicate (capacity size n - length part) 0xff

-- the bytes of a file that block n holds
abbrev pub share_of : ℕ → List ℕ → ℕ → List ℕ
share_of size bytes n = take (capacity size n) (drop (bytes_of_blocks size n) bytes)

-- the blocks of a file of these bytes, in order
unfoldable pub laid : ℕ → List ℕ → List ℕ → List (List ℕ)
laid size bytes blocks = map (λ n. filled size (share_of size bytes n) blocks n) (range_with_len 0 (length blocks))

-- these blocks of the disk have what is laid in them for a file of these bytes; they are as many as it takes, they differ, and the last one
-- is the head
pub record IsLaid (d : Disk) (head : ℕ) (bytes blocks : List ℕ) : Type 0 where
  pub count : length blocks ≡ least_blocks d.size (length bytes)
  pub last : 0 < length blocks → slice_get blocks (length blocks - 1) ≡ Some head
  pub below : All (λ b. b < d.count) blocks
  pub apart : AllPairs ◌≢◌ blocks
  pub same : map (block_of d) blocks ≡ laid d.size bytes blocks
