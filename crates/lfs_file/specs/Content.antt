-- The bytes of a file in a skip-list (DESIGN.md, "CTZ skip-lists").
use Rattle.std.specs.Prelude.{ℕ, ◌+◌, ◌-◌, ◌*◌, List, [], ◌∷◌, length, map, slice_index, take, drop}
use Rattle.std.specs.List.{concat, range_with_len}
use Rattle.lfs_block.specs.Disk.{Disk, block_of}
use Rattle.lfs_file.specs.Capacity.{pointers}

-- the bytes of the file in block n of its chain: what stands behind the pointers
abbrev pub data_part : Disk → List ℕ → ℕ → List ℕ
data_part d blocks n = drop (4 * pointers n) (block_of d (slice_index blocks n))

-- the first len bytes of what the blocks of a chain hold
unfoldable pub content : Disk → ℕ → List ℕ → List ℕ
content d len blocks = take len (concat (map (data_part d blocks) (range_with_len 0 (length blocks))))

-- the same from block n of a chain on, a list for each block: what it holds behind its pointers, cut where the file ends
unfoldable pub slices_from : Disk → ℕ → ℕ → List ℕ → List (List ℕ)
slices_from d n len [] = []
slices_from d n len (block ∷ blocks) =
    let part = drop (4 * pointers n) (block_of d block) in
    take len part ∷ slices_from d (n + 1) (len - length part) blocks
