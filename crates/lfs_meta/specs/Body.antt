-- Structs: where an entry's contents stand (SPEC.md, "Metadata types").
use Rattle.std.specs.Prelude.{ℕ, ◌+◌, ◌==◌, ◌++◌, List, slice_range, if◌then◌else◌}
use Rattle.std.specs.Int.{w32, from_le_bytes, to_le_bytes}

-- two block numbers
abbrev pub Pair : Type 0
Pair = ℕ × ℕ

-- contents in the entry ("0x201 inline struct"), the last block and the size of a skip list ("0x202 CTZ struct"),
-- or the first pair of a directory ("0x200 directory struct")
pub data StoredBody : Type 0 where
  Inline : (bytes : List ℕ) → StoredBody
  Chain : (head size : ℕ) → StoredBody
  Directory_at : (first second : ℕ) → StoredBody

-- a word of a struct
abbrev pub struct_word : List ℕ → ℕ → ℕ
struct_word bytes at = from_le_bytes w32 (slice_range bytes at (at + 4))

-- the struct that a tag's type and data are
unfoldable pub body_named : ℕ → List ℕ → StoredBody
body_named kind bytes =
    if kind == 0x201 then Inline bytes
    else if kind == 0x202 then Chain (struct_word bytes 0) (struct_word bytes 4)
    else Directory_at (struct_word bytes 0) (struct_word bytes 4)

-- two words, low bytes first
abbrev pub words : ℕ → ℕ → List ℕ
words first second = to_le_bytes w32 first ++ to_le_bytes w32 second

-- the data of a struct's tag
abbrev pub body_bytes : StoredBody → List ℕ
body_bytes (Inline bytes) = bytes
body_bytes (Chain head size) = words head size
body_bytes (Directory_at first second) = words first second
