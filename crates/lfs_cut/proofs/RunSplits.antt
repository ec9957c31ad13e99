-- The loop that splits entries into runs: what is left of the entries decides what is to come.
use Rattle.std.proofs.Common.{◌≡◌, ℕ, ◌+◌, ◌<◌, ◌≤◌, Bool, true, false, List, [], ◌∷◌, ◌++◌, length, refl, ap, sym, ◌∙◌, arith}
use Rattle.std.proofs.Common.{append_assoc, append-nil}
use Rattle.std.specs.Prelude.{if◌then◌else◌}
use Rattle.std.proofs.lemmas.Bool.Decides.{nat_tests}
use Rattle.lfs_meta.specs.Runs.{onto, runs_after, run_takes}
use Rattle.lfs_meta.proofs.RunLemmas.{some_run}
use Rattle.lfs_fs.specs.Entry.{Entry}
use Rattle.lfs_fs.specs.Weight.{weight}
use Rattle.lfs_cut.specs.Splitting.{with_run, IsSplitTo}

with_none : (runs : List (List Entry)) → with_run [] runs ≡ runs
with_none [] = refl
with_none (run ∷ runs) = refl

-- an entry at the head of the rest goes to the end of the run
with_onto : (run : List Entry) (e : Entry) (runs : List (List Entry)) → 1 ≤ length runs
    → with_run run (onto e runs) ≡ with_run (run ++ e ∷ []) runs
unfolding onto
with_onto run e [] some = absurd (omega (arith, some))
with_onto run e (next ∷ runs) some = ap (λ (r : List Entry). r ∷ runs) (sym (append_assoc run (e ∷ []) next))

-- one entry more
step_by : (room taken len : ℕ) (e : Entry) (es : List Entry) (t : Bool) → run_takes room taken len (weight e) ≡ t
    → runs_after weight room taken len (e ∷ es) ≡ (if t then onto e (runs_after weight room (taken + weight e) (len + 1) es) else []
    ∷ onto e (runs_after weight room (weight e) 1 es))
unfolding runs_after
step_by room taken len e es t is = rw is refl

pub taken_more : (complete : List (List Entry)) (room : ℕ) (runs : List (List Entry)) (run : List Entry) (taken len : ℕ) (e : Entry)
    (left : List Entry) → room ≤ 65536
    → run_takes room taken len (weight e) ≡ true → IsSplitTo complete room runs run taken len (e ∷ left)
    → IsSplitTo complete room runs (run ++ e ∷ []) (taken + weight e) (len + 1) left
taken_more complete room runs run taken len e left small takes to =
    let fits : taken + weight e ≤ room = grind (arith, nat_tests) in
    let few : len < 1000 = grind (arith, nat_tests) in
    record {
      is = to.is ∙ ap (λ (rs : List (List Entry)). runs ++ with_run run rs) (step_by room taken len e left true takes)
          ∙ ap (λ (rs : List (List Entry)). runs ++ rs) (with_onto run e (runs_after weight room (taken + weight e) (len + 1) left)
          (some_run weight room (taken + weight e) (len + 1) left));
      light = omega (arith, fits, small);
      few = omega (arith, few);
    }

pub left_more : (complete : List (List Entry)) (room : ℕ) (runs : List (List Entry)) (run : List Entry) (taken len : ℕ) (e : Entry)
    (left : List Entry) → weight e ≤ 264708
    → run_takes room taken len (weight e) ≡ false → IsSplitTo complete room runs run taken len (e ∷ left)
    → IsSplitTo complete room (runs ++ run ∷ []) (e ∷ []) (weight e) 1 left
left_more complete room runs run taken len e left small takes to = record {
  is = to.is ∙ ap (λ (rs : List (List Entry)). runs ++ with_run run rs) (step_by room taken len e left false takes)
      ∙ ap (λ (r : List Entry). runs ++ r ∷ onto e (runs_after weight room (weight e) 1 left)) (append-nil run)
      ∙ ap (λ (rs : List (List Entry)). runs ++ run ∷ rs) (sym (with_none (onto e (runs_after weight room (weight e) 1 left)))
      ∙ with_onto [] e (runs_after weight room (weight e) 1 left) (some_run weight room (weight e) 1 left))
      ∙ sym (append_assoc runs (run ∷ []) (with_run (e ∷ []) (runs_after weight room (weight e) 1 left)));
  light = omega (arith, small);
  few = omega arith;
}

pub all_split : (complete : List (List Entry)) (room : ℕ) (runs : List (List Entry)) (run : List Entry) (taken len : ℕ) (left : List Entry)
    → length left ≡ 0
    → IsSplitTo complete room runs run taken len left → runs ++ run ∷ [] ≡ complete
unfolding runs_after
all_split complete room runs run taken len [] none to = sym (to.is ∙ ap (λ (r : List Entry). runs ++ r ∷ []) (append-nil run))
all_split complete room runs run taken len (e ∷ es) none to = absurd (omega (arith, none))

-- ---- as it is done

-- the last run takes the entry
pub stays_in : (complete : List (List Entry)) (room : ℕ) (runs : List (List Entry)) (run run' : List Entry) (taken len next : ℕ) (e : Entry)
    (left : List Entry) → room ≤ 65536 → next ≡ weight e
    → run_takes room taken len next ≡ true → run' ≡ run ++ e ∷ [] → IsSplitTo complete room runs run taken len (e ∷ left)
    → IsSplitTo complete room runs run' (taken + next) (len + 1) left
stays_in complete room runs run run' taken len next e left small weighs takes is to =
    rw (is, weighs) (taken_more complete room runs run taken len e left small (ap (run_takes room taken len) (sym weighs) ∙ takes) to)

-- another one does
pub goes_on : (complete : List (List Entry)) (room : ℕ) (runs runs' : List (List Entry)) (run fresh run' : List Entry)
    (taken len taken' len' next : ℕ) (e : Entry)
    (left : List Entry) → next ≡ weight e → next ≤ 264708
    → run_takes room taken len next ≡ false → runs' ≡ runs ++ run ∷ [] → fresh ≡ [] → taken' ≡ 0 → len' ≡ 0 → run' ≡ fresh ++ e ∷ []
    → IsSplitTo complete room runs run taken len (e ∷ left) → IsSplitTo complete room runs' run' (taken' + next) (len' + 1) left
goes_on complete room runs runs' run fresh run' taken len taken' len' next e left weighs small takes are empty no_weight no_entry is to =
    let weight_is : taken' + next ≡ weight e = omega (arith, no_weight, weighs) in
    let one : len' + 1 ≡ 1 = omega (arith, no_entry) in
    rw (is, empty, are, weight_is, one) (left_more complete room runs run taken len e left (omega (arith, weighs, small))
    (ap (run_takes room taken len) (sym weighs) ∙ takes) to)
