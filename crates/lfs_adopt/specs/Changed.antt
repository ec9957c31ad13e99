-- The blocks in which two images differ (own).
use Rattle.std.specs.Prelude.{ℕ, Bool, List, bytes_eq, not}
use Rattle.std.specs.List.{filter, range_with_len}
use Rattle.lfs_block.specs.Disk.{Disk, block_of}

abbrev pub is_changed : Disk → Disk → ℕ → Bool
is_changed d e b = not (bytes_eq (block_of d b) (block_of e b))

-- their numbers, in order
abbrev pub changed_blocks : Disk → Disk → List ℕ
changed_blocks d e = filter (is_changed d e) (range_with_len 0 d.count)
