-- The words of a superblock at the front of a block (SPEC.md, "0x0ff superblock").
use Rattle.std.specs.Prelude.{ℕ, ◌&&◌, nat_eq, nat_le, Bool, false, List, [], ◌∷◌, length, drop, codes, Option, Some, None, if◌then◌else◌}
use Rattle.std.specs.List.{starts_with}
use Rattle.std.specs.Option.{option_map_or}

-- the bytes from a place on, where there are as many before it
abbrev pub from_place : List ℕ → ℕ → Option (List ℕ)
from_place front at = if nat_le at (length front) then Some (drop at front) else None

-- these bytes stand at a place
abbrev pub stands_in : List ℕ → ℕ → List ℕ → Bool
stands_in front at bytes = option_map_or (λ behind. starts_with nat_eq behind bytes) (from_place front at) false

-- a superblock's name
abbrev pub magic : List ℕ
magic = codes "littlefs"

-- the tag that creates entry 0, as it is stored behind a revision: type 0x401 without data
abbrev pub created : List ℕ
created = 0xbf ∷ 0xef ∷ 0xff ∷ 0xff ∷ []

-- the bytes of a superblock's struct, and all behind them: its name stands behind the revision and the name's tag, and the struct behind
-- that and its tag; a tag that creates the entry may stand before them
abbrev pub superblock_words : List ℕ → Option (List ℕ)
superblock_words front =
    if stands_in front 8 magic then from_place front 20
    else if stands_in front 4 created && stands_in front 12 magic then from_place front 24
    else None
