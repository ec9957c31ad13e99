-- Blocks that are listed (own).
use Rattle.std.specs.Prelude.{◌≡◌, ℕ, ◌+◌, List}
use Rattle.lfs_fs.specs.Uses.{times}

-- beside what was listed, each block stands in a list as often as it is used
abbrev pub ListsMore : List ℕ → List ℕ → (ℕ → ℕ) → Type 0
ListsMore old new uses = (b : ℕ) → times b new ≡ times b old + uses b
