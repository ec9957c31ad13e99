-- A table with one flag a block, which says whether the block is used (own).
use Rattle.std.specs.Prelude.{ℕ, ◌+◌, Bool, List, [], ◌∷◌, if◌then◌else◌}

-- the blocks whose flags aren't set, where the first flag is of the block `first`
abbrev pub unused_from : ℕ → List Bool → List ℕ
unused_from first [] = []
unused_from first (used ∷ flags) = if used then unused_from (first + 1) flags else first ∷ unused_from (first + 1) flags

-- the blocks that a table leaves unused, rising
abbrev pub unused : List Bool → List ℕ
unused flags = unused_from 0 flags
