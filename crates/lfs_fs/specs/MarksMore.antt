-- A table of used blocks in which more blocks are marked (own).
use Rattle.std.specs.Prelude.{ℕ, ◌≡◌, ◌<◌, ◌||◌, Bool, false, List, length, nat_lt, slice_index_or}

-- the blocks that more uses are of are marked, as far as the table goes
pub record MarksMore (old new : List Bool) (more : ℕ → ℕ) : Type 0 where
  pub len : length new ≡ length old
  pub marks : (b : ℕ) → b < length old → slice_index_or new b false ≡ (slice_index_or old b false || nat_lt 0 (more b))
