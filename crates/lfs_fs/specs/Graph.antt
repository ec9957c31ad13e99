-- Places (`K`) with entries (`E`) under names (`N`), as directories have them (own). `edge k n` is the entry that the
-- place k has under the name n; an entry may lead to a place, `target`.
use Rattle.std.specs.Prelude.{List, [], ◌∷◌, Option}
use Rattle.std.specs.Option.{option_and_then}

-- the entry under a name in the place that an entry leads to
abbrev pub entry_within : {K N E : Type 0} → (E → Option K) → (K → N → Option E) → N → Option E → Option E
entry_within target edge n here = option_and_then (λ e. option_and_then (λ k. edge k n) (target e)) here

-- the entry at a path
abbrev pub walk : {K N E : Type 0} → (E → Option K) → (K → N → Option E) → Option E → List N → Option E
walk target edge here [] = here
walk target edge here (n ∷ ns) = walk target edge (entry_within target edge n here) ns
