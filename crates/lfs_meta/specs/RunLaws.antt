-- Laws of runs: each takes as many entries as it can, and weights alone decide where a list is cut.
use Rattle.std.specs.Prelude.{◌≡◌, ℕ, ◌≤◌, false, List, [], ◌∷◌, length, All, Contains, flat_map, sum_by}
use Rattle.std.specs.List.{AllZip}
use Rattle.lfs_meta.specs.Runs.{most_entries, onto, runs_after, run_takes}

-- a run fits a pair
pub record RunFits {E : Type 0} (weigh : E → ℕ) (room : ℕ) (run : List E) : Type 0 where
  pub weight : sum_by weigh run ≤ room
  pub number : length run ≤ most_entries

-- The run behind one of this weight and so many entries, if there is one, begins with an entry that it could not take.
abbrev pub LeavesNext : {E : Type 0} → (E → ℕ) → ℕ → ℕ → ℕ → List (List E) → Type 0
LeavesNext weigh room weight number [] = Unit {0}
LeavesNext weigh room weight number ([] ∷ runs) = ⊥
LeavesNext weigh room weight number ((e ∷ run) ∷ runs) = run_takes room weight number (weigh e) ≡ false

-- each run leaves the next one what it could not take
abbrev pub AreGreedy : {E : Type 0} → (E → ℕ) → ℕ → List (List E) → Type 0
AreGreedy weigh room [] = Unit {0}
AreGreedy weigh room (run ∷ runs) = LeavesNext weigh room (sum_by weigh run) (length run) runs × AreGreedy weigh room runs

-- A list cut into runs: there is one at least, they join to it, each fits a pair, none could take the next one's first
-- entry, and only an empty list has an empty run.
pub record AreRuns {E : Type 0} (weigh : E → ℕ) (room : ℕ) (es : List E) (runs : List (List E)) : Type 0 where
  pub some' : 1 ≤ length runs
  pub joined : flat_map (λ run. run) runs ≡ es
  pub fit : All (RunFits weigh room) runs
  pub greedy : AreGreedy weigh room runs
  pub empty : Contains runs [] → es ≡ []

-- the law: a list of entries that fit a pair is cut so
abbrev pub RunsAreGreedy : Type 0 → Type 0
RunsAreGreedy E = (weigh : E → ℕ) (room : ℕ) (es : List E) → All (λ e. weigh e ≤ room) es
    → AreRuns weigh room es (runs_after weigh room 0 0 es)

-- the law: a list is cut so in one way
abbrev pub OneCut : Type 0 → Type 0
OneCut E = (weigh : E → ℕ) (room : ℕ) (es : List E) (runs others : List (List E)) → AreRuns weigh room es runs
    → AreRuns weigh room es others → runs ≡ others

-- the law: behind an entry that fits a pair, the runs of a list are those that begin with its weight and one entry
abbrev pub RunsBehindFirst : Type 0 → Type 0
RunsBehindFirst E = (weigh : E → ℕ) (room : ℕ) (first : E) (es : List E) → weigh first ≤ room
    → runs_after weigh room 0 0 (first ∷ es) ≡ onto first (runs_after weigh room (weigh first) 1 es)

-- the law: there is a run
abbrev pub SomeRun : Type 0 → Type 0
SomeRun E = (weigh : E → ℕ) (room weight number : ℕ) (es : List E) → 1 ≤ length (runs_after weigh room weight number es)

-- the entries at each place of two lists weigh the same
abbrev pub WeighAlike : {E F : Type 0} → (E → ℕ) → (F → ℕ) → List E → List F → Type 0
WeighAlike weigh heft es fs = AllZip (λ e f. weigh e ≡ heft f) es fs

-- the law: lists that weigh the same at each place are cut at the same places
abbrev pub RunsFollowWeights : Type 0 → Type 0 → Type 0
RunsFollowWeights E F = (weigh : E → ℕ) (heft : F → ℕ) (room weight number : ℕ) (es : List E) (fs : List F) → WeighAlike weigh heft es fs
    → AllZip (WeighAlike weigh heft) (runs_after weigh room weight number es) (runs_after heft room weight number fs)

-- the law: however they begin, the runs of a list join to it
abbrev pub RunsJoin : Type 0 → Type 0
RunsJoin E = (weigh : E → ℕ) (room weight number : ℕ) (es : List E) → flat_map (λ run. run) (runs_after weigh room weight number es) ≡ es
