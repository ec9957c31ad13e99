-- The pointers in front of a block of a skip-list (SPEC.md, "0x202 CTZ struct").
use Rattle.std.specs.Prelude.{ℕ, ◌+◌, ◌*◌, List, slice_range}
use Rattle.std.specs.Int.{w32, from_le_bytes}

-- pointer i of a block: the word at byte 4 * i, its low byte first
unfoldable pub pointer : List ℕ → ℕ → ℕ
pointer block i = from_le_bytes w32 (slice_range block (4 * i) (4 * i + 4))
