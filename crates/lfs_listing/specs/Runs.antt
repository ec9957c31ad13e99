-- Where runs of blocks end (own).
use Rattle.std.specs.Prelude.{◌+◌, ℕ, nat_eq, Bool, false, List, Option, None, slice_get, slice_index_or}
use Rattle.std.specs.Option.{option_eq, option_map_or}

-- the next block has the same user
abbrev pub run_goes_on : List (Option ℕ) → ℕ → Bool
run_goes_on users b = option_map_or (λ next. option_eq nat_eq next (slice_index_or users b None)) (slice_get users (b + 1)) false
