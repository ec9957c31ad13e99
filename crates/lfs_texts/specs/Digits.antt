-- The bytes that hexadecimal digits are (own).
use Rattle.std.specs.Prelude.{◌≡◌, ℕ, List, [], ◌∷◌, Ok, IsErr}
use Rattle.hex.specs.Hex.{decode_of, decode_sized}

-- a text is the two hexadecimal digits of a byte
abbrev pub SpellsByte : List ℕ → ℕ → Type 0
SpellsByte text byte = decode_sized text 1 ≡ Ok (byte ∷ [])

-- a text is no such digits
abbrev pub SpellsNoByte : List ℕ → Type 0
SpellsNoByte text = IsErr (decode_sized text 1)

-- a text is the hexadecimal digits of bytes, two of each
abbrev pub SpellsBytes : List ℕ → List ℕ → Type 0
SpellsBytes text bytes = decode_of text ≡ Ok bytes

-- a text is no such digits
abbrev pub SpellsNoBytes : List ℕ → Type 0
SpellsNoBytes text = IsErr (decode_of text)
