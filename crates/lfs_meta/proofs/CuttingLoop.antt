-- The loop of `cut`: what is left of the entries decides the lengths of the runs.
use Rattle.std.proofs.Common.{◌≡◌, ℕ, ◌+◌, ◌<◌, ◌≤◌, Bool, true, false, List, [], ◌∷◌, ◌++◌, length, map, drop, get_or, refl, ap, sym}
use Rattle.std.proofs.Common.{subst, ◌∙◌, arith, append_assoc}
use Rattle.std.specs.Prelude.{if◌then◌else◌}
use Rattle.std.proofs.lemmas.Bool.Decides.{nat_tests}
use Rattle.std.proofs.lemmas.List.{drop_more, drop_all}
use Rattle.lfs_meta.specs.Entry.{StoredEntry}
use Rattle.lfs_meta.specs.Runs.{onto, runs_after, run_takes}
use Rattle.lfs_meta.specs.Weighing.{weight_as_stored}
use Rattle.lfs_meta.proofs.RunLemmas.{some_run}

-- the lengths of the runs behind one of this weight_as_stored and so many entries
abbrev pub run_lengths : ℕ → ℕ → ℕ → List StoredEntry → List ℕ
run_lengths room taken len es = map (λ run. length run) (runs_after weight_as_stored room taken len es)

-- the first run with n more entries in front
abbrev pub with_more : ℕ → List ℕ → List ℕ
with_more n [] = []
with_more n (m ∷ ms) = (n + m) ∷ ms

pub record IsCutTo (room : ℕ) (all left : List StoredEntry) (lengths : List ℕ) (taken len : ℕ) : Type 0 where
  pub complete : run_lengths room 0 0 all ≡ lengths ++ with_more len (run_lengths room taken len left)
  pub light : taken ≤ 330244
  pub few : len ≤ 1000

onto_lengths : (e : StoredEntry) (runs : List (List StoredEntry)) → 1 ≤ length runs
    → map (λ run. length run) (onto e runs) ≡ with_more 1 (map (λ run. length run) runs)
unfolding onto
onto_lengths e [] h = let no : ⊥ = omega arith in absurd no
onto_lengths e (run ∷ runs) h = ap (λ n. n ∷ map (λ (x : List StoredEntry). length x) runs) (omega arith)

more_twice : (n : ℕ) (ms : List ℕ) → with_more n (with_more 1 ms) ≡ with_more (n + 1) ms
more_twice n [] = refl
more_twice n (m ∷ ms) = ap (λ k. k ∷ ms) (omega arith)

none_more : (ms : List ℕ) → with_more 0 ms ≡ ms
none_more [] = refl
none_more (m ∷ ms) = ap (λ k. k ∷ ms) (omega arith)

pub first : (room : ℕ) (all : List StoredEntry) → IsCutTo room all all [] 0 0
first room all = record { complete = sym (none_more (run_lengths room 0 0 all)); light = omega arith; few = omega arith }

step_by : (room taken len : ℕ) (e : StoredEntry) (es : List StoredEntry) (t : Bool) → run_takes room taken len (weight_as_stored e) ≡ t
    → run_lengths room taken len (e ∷ es) ≡ (if t then with_more 1 (run_lengths room (taken + weight_as_stored e) (len + 1) es) else 0
    ∷ with_more 1 (run_lengths room (weight_as_stored e) 1 es))
unfolding runs_after
step_by room taken len e es true is =
    rw is (onto_lengths e (runs_after weight_as_stored room (taken + weight_as_stored e) (len + 1) es) (some_run weight_as_stored room (taken + weight_as_stored e) (len + 1) es))
step_by room taken len e es false is =
    rw is (ap (λ (ns : List ℕ). 0 ∷ ns) (onto_lengths e (runs_after weight_as_stored room (weight_as_stored e) 1 es) (some_run weight_as_stored room (weight_as_stored e) 1 es)))

pub taken_more : (room : ℕ) (all : List StoredEntry) (e : StoredEntry) (left : List StoredEntry) (lengths : List ℕ) (taken len : ℕ)
    → room ≤ 65536 → run_takes room taken len (weight_as_stored e) ≡ true
    → IsCutTo room all (e ∷ left) lengths taken len → IsCutTo room all left lengths (taken + weight_as_stored e) (len + 1)
taken_more room all e left lengths taken len small full h =
    let fits : taken + weight_as_stored e ≤ room = grind (arith, nat_tests) in
    let few : len < 1000 = grind (arith, nat_tests) in
    record {
      complete = h.complete ∙ ap (λ (ns : List ℕ). lengths ++ with_more len ns) (step_by room taken len e left true full)
          ∙ ap (λ (ns : List ℕ). lengths ++ ns) (more_twice len (run_lengths room (taken + weight_as_stored e) (len + 1) left));
      light = omega (arith, fits, small);
      few = omega (arith, few);
    }

pub left_more : (room : ℕ) (all : List StoredEntry) (e : StoredEntry) (left : List StoredEntry) (lengths : List ℕ) (taken len : ℕ)
    → weight_as_stored e ≤ 264708 → (run_takes room taken len (weight_as_stored e) ≡ false)
    → IsCutTo room all (e ∷ left) lengths taken len → IsCutTo room all left (lengths ++ len ∷ []) (weight_as_stored e) 1
left_more room all e left lengths taken len small full h = record {
  complete =
      h.complete ∙ ap (λ (ns : List ℕ). lengths ++ with_more len ns) (step_by room taken len e left false full)
      ∙ ap (λ (n : ℕ). lengths ++ n ∷ with_more 1 (run_lengths room (weight_as_stored e) 1 left)) (omega arith)
      ∙ sym (append_assoc lengths (len ∷ []) (with_more 1 (run_lengths room (weight_as_stored e) 1 left)));
  light = omega (arith, small);
  few = omega arith;
}

pub all_cut : (room : ℕ) (all : List StoredEntry) (lengths : List ℕ) (taken len : ℕ) → IsCutTo room all [] lengths taken len
    → lengths ++ len ∷ [] ≡ run_lengths room 0 0 all
unfolding runs_after
all_cut room all lengths taken len h = sym (h.complete ∙ ap (λ (n : ℕ). lengths ++ n ∷ []) (omega arith))

-- the next entry of those that are left
next_entry : (all : List StoredEntry) (i : ℕ) (e : StoredEntry) → i < length all → e ≡ get_or all i e → drop i all ≡ e ∷ drop (i + 1) all
next_entry all i e within is = drop_more all i e within ∙ ap (λ (x : StoredEntry). x ∷ drop (i + 1) all) (sym is)

pub taken_next : (room : ℕ) (all : List StoredEntry) (i : ℕ) (e : StoredEntry) (w : ℕ) (lengths : List ℕ) (taken len : ℕ) → i < length all
    → e ≡ get_or all i e → w ≡ weight_as_stored e → room ≤ 65536 → run_takes room taken len w ≡ true
    → IsCutTo room all (drop i all) lengths taken len → IsCutTo room all (drop (i + 1) all) lengths (taken + w) (len + 1)
taken_next room all i e w lengths taken len within is weighs small full h =
    rw weighs (taken_more room all e (drop (i + 1) all) lengths taken len small (ap (run_takes room taken len) (sym weighs) ∙ full)
    (subst (λ (left : List StoredEntry). IsCutTo room all left lengths taken len) (next_entry all i e within is) h))

pub left_next : (room : ℕ) (all : List StoredEntry) (i : ℕ) (e : StoredEntry) (w : ℕ) (lengths : List ℕ) (taken len : ℕ) → i < length all
    → e ≡ get_or all i e → w ≡ weight_as_stored e → w ≤ 264708 → run_takes room taken len w ≡ false
    → IsCutTo room all (drop i all) lengths taken len → IsCutTo room all (drop (i + 1) all) (lengths ++ len ∷ []) w 1
left_next room all i e w lengths taken len within is weighs small full h =
    rw weighs (left_more room all e (drop (i + 1) all) lengths taken len (omega (arith, weighs, small))
    (ap (run_takes room taken len) (sym weighs) ∙ full)
    (subst (λ (left : List StoredEntry). IsCutTo room all left lengths taken len) (next_entry all i e within is) h))

pub cut_complete : (room : ℕ) (all : List StoredEntry) (i : ℕ) (lengths : List ℕ) (taken len : ℕ) → length all ≤ i
    → IsCutTo room all (drop i all) lengths taken len → lengths ++ len ∷ [] ≡ run_lengths room 0 0 all
cut_complete room all i lengths taken len past h = all_cut room all lengths taken len
    (subst (λ (left : List StoredEntry). IsCutTo room all left lengths taken len) (drop_all i all past) h)

-- a length that was pushed
pub pushed : (ok : Bool) (old new : List ℕ) (n : ℕ) → true ≡ ok → new ≡ (if ok then old ++ n ∷ [] else old) → new ≡ old ++ n ∷ []
pushed true old new n grown is = is
pushed false old new n grown is = cc
