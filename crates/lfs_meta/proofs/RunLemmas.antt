-- How lists of entries are cut.
use Rattle.std.proofs.Common.{◌≡◌, ℕ, ◌+◌, ◌≤◌, Bool, true, false, List, [], ◌∷◌, ◌++◌, length, refl, ap, sym, ◌∙◌, subst, arith, zero, suc}
use Rattle.std.specs.Prelude.{All, Contains, flat_map, sum_by, if◌then◌else◌}
use Rattle.std.specs.List.{AllZip}
use Rattle.std.proofs.lemmas.Bool.Decides.{nat_tests}
use Rattle.std.proofs.lemmas.List.Elements.{All-cons, All-nil, All-head, All-tail}
use Rattle.std.proofs.lemmas.List.Sums.{sum_by-cons}
use Rattle.lfs_meta.specs.Runs.{most_entries, onto, runs_after, run_takes, first_run, later_runs}
use Rattle.lfs_meta.specs.RunLaws.{RunFits, LeavesNext, AreGreedy, AreRuns, OneCut, RunsAreGreedy, RunsBehindFirst, SomeRun}
use Rattle.lfs_meta.specs.RunLaws.{RunsFollowWeights, RunsJoin}

-- the same of a list whose first run has a weight and a number to begin with
record AreRunsAfter {E : Type 0} (weigh : E → ℕ) (room weight number : ℕ) (es : List E) (runs : List (List E)) : Type 0 where
  some' : 1 ≤ length runs
  joined : flat_map (λ run. run) runs ≡ es
  first_weight : weight + sum_by weigh (first_run runs) ≤ room
  first_number : number + length (first_run runs) ≤ most_entries
  later : All (RunFits weigh room) (later_runs runs)
  leaves : LeavesNext weigh room (weight + sum_by weigh (first_run runs)) (number + length (first_run runs)) (later_runs runs)
  greedy : AreGreedy weigh room (later_runs runs)

-- an entry that the first run takes
taken : {E : Type 0} (weigh : E → ℕ) (room weight number : ℕ) (e : E) (es : List E) (runs : List (List E))
    → AreRunsAfter weigh room (weight + weigh e) (number + 1) es runs → AreRunsAfter weigh room weight number (e ∷ es) (onto e runs)
unfolding onto
taken weigh room weight number e es [] h = absurd (omega (arith, h.some'))
taken weigh room weight number e es (run ∷ runs) h =
    let heavy : weight + weigh e + sum_by weigh run ≡ weight + sum_by weigh (e ∷ run) = omega (arith, sum_by-cons weigh e run) in
    let many : number + 1 + length run ≡ number + length (e ∷ run) = omega arith in
    record {
      some' = omega arith;
      joined = ap (λ xs. e ∷ xs) h.joined;
      first_weight = omega (arith, h.first_weight, heavy);
      first_number = omega (arith, h.first_number, many);
      later = h.later;
      leaves = rw (← heavy, ← many) h.leaves;
      greedy = h.greedy;
    }

-- an entry that it doesn't take
left : {E : Type 0} (weigh : E → ℕ) (room weight number : ℕ) (e : E) (es : List E) (runs : List (List E)) → weight ≤ room
    → number ≤ most_entries → run_takes room weight number (weigh e) ≡ false
    → AreRunsAfter weigh room (weigh e) 1 es runs → AreRunsAfter weigh room weight number (e ∷ es) ([] ∷ onto e runs)
unfolding onto
left weigh room weight number e es [] light few full h = absurd (omega (arith, h.some'))
left weigh room weight number e es (run ∷ runs) light few full h =
    let heavy : weigh e + sum_by weigh run ≡ sum_by weigh (e ∷ run) = omega (arith, sum_by-cons weigh e run) in
    let many : 1 + length run ≡ length (e ∷ run) = omega arith in
    let none : weight + 0 ≡ weight = omega arith in
    let no_more : number + 0 ≡ number = omega arith in
    record {
      some' = omega arith;
      joined = ap (λ xs. e ∷ xs) h.joined;
      first_weight = omega (arith, light);
      first_number = omega (arith, few);
      later = All-cons (RunFits weigh room) (e ∷ run) runs (record {
        weight = omega (arith, h.first_weight, heavy);
        number = omega (arith, h.first_number, many);
      }) h.later;
      leaves = rw (none, no_more) full;
      greedy = (rw (← heavy, ← many) h.leaves, h.greedy);
    }

takes_fits : (room weight number w : ℕ) → run_takes room weight number w ≡ true → (weight + w ≤ room) × (number + 1 ≤ most_entries)
takes_fits room weight number w h = (grind (arith, nat_tests), grind (arith, nat_tests))

either : {E : Type 0} (weigh : E → ℕ) (room weight number : ℕ) (e : E) (es : List E) (more others : List (List E)) (b : Bool)
    → run_takes room weight number (weigh e) ≡ b → weight ≤ room → number ≤ most_entries
    → (weight + weigh e ≤ room → number + 1 ≤ most_entries → AreRunsAfter weigh room (weight + weigh e) (number + 1) es more)
    → AreRunsAfter weigh room (weigh e) 1 es others → AreRunsAfter weigh room weight number (e ∷ es)
    (if b then onto e more else [] ∷ onto e others)
either weigh room weight number e es more others true is light few h k =
    let fits = takes_fits room weight number (weigh e) is in
    taken weigh room weight number e es more (h fits.0 fits.1)
either weigh room weight number e es more others false is light few h k = left weigh room weight number e es others light few is k

are_runs_after : {E : Type 0} (weigh : E → ℕ) (room weight number : ℕ) (es : List E) → weight ≤ room → number ≤ most_entries
    → All (λ e. weigh e ≤ room) es → AreRunsAfter weigh room weight number es (runs_after weigh room weight number es)
unfolding runs_after
are_runs_after weigh room weight number [] light few fit = record {
  some' = omega arith;
  joined = refl;
  first_weight = omega (arith, light);
  first_number = omega (arith, few);
  later = All-nil (RunFits weigh room);
  leaves = tt;
  greedy = tt;
}
are_runs_after {E} weigh room weight number (e ∷ es) light few fit =
    let here : weigh e ≤ room = All-head (λ (x : E). weigh x ≤ room) e es fit in
    let rest : All (λ (x : E). weigh x ≤ room) es = All-tail (λ (x : E). weigh x ≤ room) e es fit in
    either weigh room weight number e es (runs_after weigh room (weight + weigh e) (number + 1) es) (runs_after weigh room (weigh e) 1 es)
    (run_takes room weight number (weigh e)) refl light few
    (λ heavy many. are_runs_after weigh room (weight + weigh e) (number + 1) es heavy many rest)
    (are_runs_after weigh room (weigh e) 1 es here (omega arith) rest)

empty_behind : {E : Type 0} (e : E) (run : List E) (runs : List (List E)) → Contains ((e ∷ run) ∷ runs) [] → Contains runs []
empty_behind e run runs (zero, within, is) = cc
empty_behind e run runs (suc k, within, is) = (k, omega (arith, within), is)

-- no run behind another one is empty
none_empty : {E : Type 0} (weigh : E → ℕ) (room weight number : ℕ) (runs : List (List E)) → LeavesNext weigh room weight number runs
    → AreGreedy weigh room runs → Contains runs [] → ⊥
none_empty weigh room weight number [] leaves greedy there = omega (arith, there.1)
none_empty weigh room weight number ([] ∷ runs) leaves greedy there = leaves
none_empty weigh room weight number ((e ∷ run) ∷ runs) leaves greedy there =
    none_empty weigh room (sum_by weigh (e ∷ run)) (length (e ∷ run)) runs greedy.0 greedy.1 (empty_behind e run runs there)

-- only an empty list has an empty first run
first_empty : {E : Type 0} (weigh : E → ℕ) (room : ℕ) (es : List E) (runs : List (List E)) → All (λ e. weigh e ≤ room) es
    → flat_map (λ run. run) runs ≡ es → LeavesNext weigh room 0 0 runs → es ≡ []
first_empty weigh room es [] fit joined leaves = sym joined
first_empty weigh room es ([] ∷ runs) fit joined leaves = absurd leaves
first_empty {E} weigh room es ((e ∷ run) ∷ runs) fit joined leaves =
    let here : weigh e ≤ room = All-head (λ (x : E). weigh x ≤ room) e (run ++ flat_map (λ xs. xs) runs)
    (subst (All (λ (x : E). weigh x ≤ room)) (sym joined) fit) in
    absurd (grind (arith, nat_tests, leaves, here))

all_runs : {E : Type 0} (weigh : E → ℕ) (room : ℕ) (es : List E) (runs : List (List E)) → All (λ e. weigh e ≤ room) es
    → AreRunsAfter weigh room 0 0 es runs → AreRuns weigh room es runs
all_runs weigh room es [] fit h = absurd (omega (arith, h.some'))
all_runs weigh room es ([] ∷ runs) fit h = record {
  some' = omega arith;
  joined = h.joined;
  fit = All-cons (RunFits weigh room) [] runs (record { weight = omega arith; number = omega arith }) h.later;
  greedy = (h.leaves, h.greedy);
  empty = λ _. first_empty weigh room es runs fit h.joined h.leaves;
}
all_runs {E} weigh room es ((e ∷ run) ∷ runs) fit h =
    let weight : sum_by weigh (e ∷ run) ≤ room = omega (arith, h.first_weight) in
    let number : length (e ∷ run) ≤ most_entries = omega (arith, h.first_number) in
    let light : 0 + sum_by weigh (e ∷ run) ≡ sum_by weigh (e ∷ run) = omega arith in
    let few : 0 + length (e ∷ run) ≡ length (e ∷ run) = omega arith in
    let leaves : LeavesNext weigh room (sum_by weigh (e ∷ run)) (length (e ∷ run)) runs =
    subst (λ (n : ℕ). LeavesNext weigh room (sum_by weigh (e ∷ run)) n runs) few
    (subst (λ (n : ℕ). LeavesNext weigh room n (0 + length (e ∷ run)) runs) light h.leaves) in
    record {
      some' = omega arith;
      joined = h.joined;
      fit = All-cons (RunFits weigh room) (e ∷ run) runs (record { weight = weight; number = number }) h.later;
      greedy = (leaves, h.greedy);
      empty = λ there. absurd (none_empty weigh room (sum_by weigh (e ∷ run)) (length (e ∷ run)) runs leaves h.greedy
          (empty_behind e run runs there));
    }

pub runs_are_greedy : {E : Type 0} → RunsAreGreedy E
runs_are_greedy weigh room es fit = all_runs weigh room es (runs_after weigh room 0 0 es) fit
    (are_runs_after weigh room 0 0 es (omega arith) (omega arith) fit)

-- ---- a list is cut in one way

-- a run is done, and the next one begins
begun : {E : Type 0} (weigh : E → ℕ) (room weight number : ℕ) (e d : E) (es run : List E) (runs : List (List E)) → d ≡ e
    → run ++ flat_map (λ xs. xs) runs ≡ es
    → AreRunsAfter weigh room weight number (e ∷ es) ([] ∷ (d ∷ run) ∷ runs) → AreRunsAfter weigh room (weigh e) 1 es (run ∷ runs)
begun {E} weigh room weight number e d es run runs same joined h =
    let P : E → Type 0 = λ x. AreRunsAfter weigh room (weigh x) 1 es (run ∷ runs) in
    let fits : RunFits weigh room (d ∷ run) = All-head (RunFits weigh room) (d ∷ run) runs h.later in
    let heavy : sum_by weigh (d ∷ run) ≡ weigh d + sum_by weigh run = sum_by-cons weigh d run in
    let many : length (d ∷ run) ≡ 1 + length run = omega arith in
    let made : P d = record {
      some' = omega arith;
      joined = joined;
      first_weight = omega (arith, fits.weight, heavy);
      first_number = omega (arith, fits.number, many);
      later = All-tail (RunFits weigh room) (d ∷ run) runs h.later;
      leaves = subst (λ (n : ℕ). LeavesNext weigh room (weigh d + sum_by weigh run) n runs) many
          (subst (λ (w : ℕ). LeavesNext weigh room w (length (d ∷ run)) runs) heavy h.greedy.0);
      greedy = h.greedy.1;
    } in
    subst P same made

-- a run goes on
gone_on : {E : Type 0} (weigh : E → ℕ) (room weight number : ℕ) (e d : E) (es run : List E) (runs : List (List E)) → d ≡ e
    → run ++ flat_map (λ xs. xs) runs ≡ es
    → AreRunsAfter weigh room weight number (e ∷ es) ((d ∷ run) ∷ runs)
    → AreRunsAfter weigh room (weight + weigh e) (number + 1) es (run ∷ runs)
gone_on {E} weigh room weight number e d es run runs same joined h =
    let P : E → Type 0 = λ x. AreRunsAfter weigh room (weight + weigh x) (number + 1) es (run ∷ runs) in
    let heavy : weight + sum_by weigh (d ∷ run) ≡ weight + weigh d + sum_by weigh run = omega (arith, sum_by-cons weigh d run) in
    let many : number + length (d ∷ run) ≡ number + 1 + length run = omega arith in
    let made : P d = record {
      some' = omega arith;
      joined = joined;
      first_weight = omega (arith, h.first_weight, heavy);
      first_number = omega (arith, h.first_number, many);
      later = h.later;
      leaves = subst (λ (n : ℕ). LeavesNext weigh room (weight + weigh d + sum_by weigh run) n runs) many
          (subst (λ (w : ℕ). LeavesNext weigh room w (number + length (d ∷ run)) runs) heavy h.leaves);
      greedy = h.greedy;
    } in
    subst P same made

-- the first run takes its own first entry
taken_first : {E : Type 0} (weigh : E → ℕ) (room weight number : ℕ) (e d : E) (es run : List E) (runs : List (List E)) → d ≡ e
    → AreRunsAfter weigh room weight number (e ∷ es) ((d ∷ run) ∷ runs) → run_takes room weight number (weigh e) ≡ true
taken_first weigh room weight number e d es run runs same h =
    let heavy : sum_by weigh (d ∷ run) ≡ weigh d + sum_by weigh run = sum_by-cons weigh d run in
    let is : weigh d ≡ weigh e = ap weigh same in
    let light : weight + weigh e ≤ room = omega (arith, h.first_weight, heavy, is) in
    let few : number + 1 ≤ most_entries = omega (arith, h.first_number) in
    grind (arith, nat_tests)

-- an empty first run doesn't take the next one's first entry
left_first : {E : Type 0} (weigh : E → ℕ) (room weight number : ℕ) (e d : E) (es run : List E) (runs : List (List E)) → d ≡ e
    → AreRunsAfter weigh room weight number (e ∷ es) ([] ∷ (d ∷ run) ∷ runs) → run_takes room weight number (weigh e) ≡ false
left_first weigh room weight number e d es run runs same h =
    let none : weight + 0 ≡ weight = omega arith in
    let no_more : number + 0 ≡ number = omega arith in
    ap (λ (x : ℕ). run_takes room weight number x) (sym (ap weigh same))
    ∙ ap (λ (w : ℕ). run_takes room w number (weigh d)) (sym none)
    ∙ ap (λ (n : ℕ). run_takes room (weight + 0) n (weigh d)) (sym no_more)
    ∙ h.leaves

only_after : {E : Type 0} (weigh : E → ℕ) (room weight number : ℕ) (es : List E) (runs : List (List E))
    → AreRunsAfter weigh room weight number es runs → runs ≡ runs_after weigh room weight number es
unfolding runs_after onto
only_after weigh room weight number [] [] h = absurd (omega (arith, h.some'))
only_after weigh room weight number [] ([] ∷ []) h = refl
only_after weigh room weight number [] ([] ∷ [] ∷ runs) h = absurd h.leaves
only_after weigh room weight number [] ([] ∷ (d ∷ run) ∷ runs) h = absurd (cc h.joined)
only_after weigh room weight number [] ((d ∷ run) ∷ runs) h = absurd (cc h.joined)
only_after weigh room weight number (e ∷ es) [] h = absurd (omega (arith, h.some'))
only_after weigh room weight number (e ∷ es) ([] ∷ []) h = absurd (cc h.joined)
only_after weigh room weight number (e ∷ es) ([] ∷ [] ∷ runs) h = absurd h.leaves
only_after weigh room weight number (e ∷ es) ([] ∷ (d ∷ run) ∷ runs) h =
    let same : d ≡ e = cc h.joined in
    let joined : run ++ flat_map (λ xs. xs) runs ≡ es = cc h.joined in
    let rest : run ∷ runs ≡ runs_after weigh room (weigh e) 1 es = only_after weigh room (weigh e) 1 es (run ∷ runs)
    (begun weigh room weight number e d es run runs same joined h) in
    rw (left_first weigh room weight number e d es run runs same h) (ap (λ x. [] ∷ (x ∷ run) ∷ runs) same ∙ ap (λ xs. [] ∷ onto e xs) rest)
only_after weigh room weight number (e ∷ es) ((d ∷ run) ∷ runs) h =
    let same : d ≡ e = cc h.joined in
    let joined : run ++ flat_map (λ xs. xs) runs ≡ es = cc h.joined in
    let rest : run ∷ runs ≡ runs_after weigh room (weight + weigh e) (number + 1) es =
    only_after weigh room (weight + weigh e) (number + 1) es (run ∷ runs)
    (gone_on weigh room weight number e d es run runs same joined h) in
    rw (taken_first weigh room weight number e d es run runs same h) (ap (λ x. (x ∷ run) ∷ runs) same ∙ ap (λ xs. onto e xs) rest)

from_first : {E : Type 0} (weigh : E → ℕ) (room : ℕ) (es : List E) (runs : List (List E)) → AreRuns weigh room es runs
    → AreRunsAfter weigh room 0 0 es runs
from_first weigh room es [] h = absurd (omega (arith, h.some'))
from_first weigh room es (run ∷ runs) h =
    let fits : RunFits weigh room run = All-head (RunFits weigh room) run runs h.fit in
    let light : sum_by weigh run ≡ 0 + sum_by weigh run = omega arith in
    let few : length run ≡ 0 + length run = omega arith in
    record {
      some' = h.some';
      joined = h.joined;
      first_weight = omega (arith, fits.weight);
      first_number = omega (arith, fits.number);
      later = All-tail (RunFits weigh room) run runs h.fit;
      leaves = subst (λ (n : ℕ). LeavesNext weigh room (0 + sum_by weigh run) n runs) few
          (subst (λ (w : ℕ). LeavesNext weigh room w (length run) runs) light h.greedy.0);
      greedy = h.greedy.1;
    }

pub one_cut : {E : Type 0} → OneCut E
one_cut weigh room es runs others h k =
    only_after weigh room 0 0 es runs (from_first weigh room es runs h)
    ∙ sym (only_after weigh room 0 0 es others (from_first weigh room es others k))

pub runs_behind_first : {E : Type 0} → RunsBehindFirst E
unfolding runs_after
runs_behind_first weigh room first es fits =
    let taken : run_takes room 0 0 (weigh first) ≡ true = grind (arith, nat_tests, fits) in
    let weight : 0 + weigh first ≡ weigh first = omega arith in
    ap (λ (b : Bool). if b then onto first (runs_after weigh room (0 + weigh first) 1 es) else []
    ∷ onto first (runs_after weigh room (weigh first) 1 es)) taken
    ∙ ap (λ (w : ℕ). onto first (runs_after weigh room w 1 es)) weight

some_onto : {E : Type 0} (e : E) (runs : List (List E)) → 1 ≤ length (onto e runs)
unfolding onto
some_onto e [] = omega arith
some_onto e (run ∷ runs) = omega arith

some_either : {E : Type 0} (b : Bool) (e : E) (more others : List (List E)) → 1 ≤ length (if b then onto e more else [] ∷ onto e others)
some_either true e more others = some_onto e more
some_either false e more others = omega arith

pub some_run : {E : Type 0} → SomeRun E
unfolding runs_after
some_run weigh room weight number [] = omega arith
some_run weigh room weight number (e ∷ es) = some_either (run_takes room weight number (weigh e)) e
    (runs_after weigh room (weight + weigh e) (number + 1) es) (runs_after weigh room (weigh e) 1 es)

-- an entry in front of runs that match
onto_matches : {E F : Type 0} (R : E → F → Type 0) (e : E) (f : F) (runs : List (List E)) (others : List (List F)) → R e f
    → AllZip (AllZip R) runs others → AllZip (AllZip R) (onto e runs) (onto f others)
unfolding onto
onto_matches R e f [] [] h match = ((h, tt), tt)
onto_matches R e f [] (other ∷ others) h match = absurd match
onto_matches R e f (run ∷ runs) [] h match = absurd match
onto_matches R e f (run ∷ runs) (other ∷ others) h match = ((h, match.0), match.1)

either_matches : {E F : Type 0} (R : E → F → Type 0) (b : Bool) (e : E) (f : F) (more behind : List (List E)) (others later : List (List F))
    → R e f → AllZip (AllZip R) more others → AllZip (AllZip R) behind later
    → AllZip (AllZip R) (if b then onto e more else [] ∷ onto e behind) (if b then onto f others else [] ∷ onto f later)
either_matches R true e f more behind others later h match _ = onto_matches R e f more others h match
either_matches R false e f more behind others later h _ match = (tt, onto_matches R e f behind later h match)

-- entries that are related one by one weigh the same, and so they are cut at the same places
pub runs_match : {E F : Type 0} (R : E → F → Type 0) (weigh : E → ℕ) (heft : F → ℕ) (room weight number : ℕ) (es : List E) (fs : List F)
    → ((e : E) (f : F) → R e f → weigh e ≡ heft f)
    → AllZip R es fs → AllZip (AllZip R) (runs_after weigh room weight number es) (runs_after heft room weight number fs)
unfolding runs_after
runs_match R weigh heft room weight number [] [] same match = (tt, tt)
runs_match R weigh heft room weight number [] (f ∷ fs) same match = absurd match
runs_match R weigh heft room weight number (e ∷ es) [] same match = absurd match
runs_match R weigh heft room weight number (e ∷ es) (f ∷ fs) same match =
    let alike : weigh e ≡ heft f = same e f match.0 in
    rw alike (either_matches R (run_takes room weight number (heft f)) e f _ _ _ _ match.0
    (runs_match R weigh heft room (weight + heft f) (number + 1) es fs same match.1)
    (runs_match R weigh heft room (heft f) 1 es fs same match.1))

pub runs_follow_weights : {E F : Type 0} → RunsFollowWeights E F
runs_follow_weights weigh heft room weight number es fs alike = runs_match (λ e f. weigh e ≡ heft f) weigh heft room weight number es fs
    (λ e f same. same) alike

-- an entry in front of the first run stands in front of all
joined_onto : {E : Type 0} (e : E) (runs : List (List E)) → flat_map (λ run. run) (onto e runs) ≡ e ∷ flat_map (λ run. run) runs
unfolding onto
joined_onto e [] = refl
joined_onto e (run ∷ runs) = refl

joined_either : {E : Type 0} (e : E) (es : List E) (more others : List (List E)) (b : Bool) → flat_map (λ run. run) more ≡ es
    → flat_map (λ run. run) others ≡ es
    → flat_map (λ run. run) (if b then onto e more else [] ∷ onto e others) ≡ e ∷ es
joined_either e es more others true h k = joined_onto e more ∙ ap (λ xs. e ∷ xs) h
joined_either e es more others false h k = joined_onto e others ∙ ap (λ xs. e ∷ xs) k

pub runs_join : {E : Type 0} → RunsJoin E
unfolding runs_after
runs_join weigh room weight number [] = refl
runs_join weigh room weight number (e ∷ es) =
    joined_either e es (runs_after weigh room (weight + weigh e) (number + 1) es) (runs_after weigh room (weigh e) 1 es)
    (run_takes room weight number (weigh e))
    (runs_join weigh room (weight + weigh e) (number + 1) es) (runs_join weigh room (weigh e) 1 es)
