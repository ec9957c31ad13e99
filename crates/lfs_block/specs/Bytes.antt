-- Bytes (own).
use Rattle.std.specs.Prelude.{ℕ, ◌<◌, List, slice_index}

-- each number of the list is a byte
abbrev pub IsBytes : List ℕ → Type 0
IsBytes bytes = (i : ℕ) → slice_index bytes i < 256
