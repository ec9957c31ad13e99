-- The global state of a volume (SPEC.md, "0x7xx global state"; DESIGN.md, "The move problem").
use Rattle.std.specs.Prelude.{◌≡◌, ◌≢◌, ℕ, ◌+◌, ◌*◌, ◌/◌, ◌%◌, ◌^◌, List, [], ◌∷◌, bit_xor}
use Rattle.lfs_fs.specs.Directory.{Part}

-- the number that bytes spell, the lowest byte first
abbrev pub little_endian : List ℕ → ℕ
little_endian [] = 0
little_endian (b ∷ bs) = b + 256 * little_endian bs

-- the exclusive or of the deltas of parts
abbrev pub delta_of : List Part → ℕ
delta_of [] = 0
delta_of (p ∷ ps) = bit_xor p.delta (delta_of ps)

-- the type of an unfinished move, bits 20 to 30 of the first word
abbrev pub move_type : ℕ → ℕ
move_type state = state / 2 ^ 20 % 2 ^ 11

-- the top bit of the first word
abbrev pub orphan_bit : ℕ → ℕ
orphan_bit state = state / 2 ^ 31 % 2

-- it says that a move is unfinished
abbrev pub IsUnfinishedMove : ℕ → Type 0
IsUnfinishedMove state = move_type state ≢ 0

-- it says only that there may be directories that are not reached
abbrev pub SaysOrphans : ℕ → Type 0
SaysOrphans state = (move_type state ≡ 0) × (orphan_bit state ≡ 1)

-- neither, but not zero
abbrev pub IsUnknownState : ℕ → Type 0
IsUnknownState state = (state ≢ 0) × (move_type state ≡ 0) × (orphan_bit state ≡ 0)
