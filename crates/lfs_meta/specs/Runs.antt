-- Runs: how a list of entries is cut where it takes more room than one block has (own).
use Rattle.std.specs.Prelude.{ℕ, ◌+◌, Bool, List, [], ◌∷◌, nat_le, nat_lt, ◌&&◌, if◌then◌else◌}

-- the most entries that one pair holds
abbrev pub most_entries : ℕ
most_entries = 1000

-- an entry in front of the first run
unfoldable pub onto : {E : Type 0} → E → List (List E) → List (List E)
onto e [] = (e ∷ []) ∷ []
onto e (run ∷ runs) = (e ∷ run) ∷ runs

-- Whether a run of this weight and so many entries takes one more entry of weight w.
abbrev pub run_takes : ℕ → ℕ → ℕ → ℕ → Bool
run_takes room weight number w = nat_le (weight + w) room && nat_lt number most_entries

-- The rest of a run that has this weight and this many entries so far, and the runs behind it. A run takes the next entry
-- as long as it can.
unfoldable pub runs_after : {E : Type 0} → (E → ℕ) → ℕ → ℕ → ℕ → List E → List (List E)
runs_after weigh room weight number [] = [] ∷ []
runs_after weigh room weight number (e ∷ es) =
    if run_takes room weight number (weigh e)
    then onto e (runs_after weigh room (weight + weigh e) (number + 1) es)
    else [] ∷ onto e (runs_after weigh room (weigh e) 1 es)

-- the run that stays where the list stood
abbrev pub first_run : {E : Type 0} → List (List E) → List E
first_run [] = []
first_run (run ∷ runs) = run

-- the runs that go elsewhere
abbrev pub later_runs : {E : Type 0} → List (List E) → List (List E)
later_runs [] = []
later_runs (run ∷ runs) = runs
