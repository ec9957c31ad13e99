-- The one element of a list that passes a test, sought from a place on.
use Rattle.std.proofs.Common.{◌≡◌, ℕ, ◌+◌, ◌-◌, ◌<◌, ◌≤◌, suc, zero, Bool, false, List, [], ◌∷◌, ◌++◌, Option, Some, None, cond, length, take, drop, refl, ap, subst, sym, ◌∙◌, arith}
use Rattle.std.proofs.Common.{get_or}
use Rattle.std.specs.Prelude.{count_by, find}
use Rattle.std.specs.List.{position}
use Rattle.std.specs.Option.{option_or, unwrap_or}
use Rattle.std.proofs.lemmas.List.{drop-drop, get_or-take, length-drop, length-take-le, take-append-drop, take_all}
use Rattle.std.proofs.lemmas.List.Folds.{find-append}
use Rattle.std.proofs.lemmas.List.Quantifiers.{position-Some}
use Rattle.std.proofs.lemmas.List.Sums.{sum_by-append}
use Rattle.lfs_law.proofs.OneElement.{none_counted}
use Rattle.lfs_draft.proofs.OneIndex.{counted_at}

-- the same is found once elements that don't pass are dropped
passed_over : {X : Type 0} (t : X → Bool) (xs : List X) (i : ℕ) (d : X) → ((k : ℕ) → k < i → t (get_or xs k d) ≡ false)
    → find t (drop i xs) ≡ find t xs
passed_over t xs zero d fails = refl
passed_over t [] (suc i) d fails = refl
passed_over t (x ∷ xs) (suc i) d fails =
    rw (fails 0 (omega arith)) (passed_over t xs i d (λ k below. fails (suc k) (omega (arith, below))))

-- where one passes among some elements, none passes before them
none_before : {X : Type 0} (t : X → Bool) (xs ys : List X) (i : ℕ) (d : X) → position t ys ≡ Some i → count_by t (xs ++ ys) ≤ 1
    → find t xs ≡ None
none_before {X} t xs ys i d found once =
    let here = position-Some t ys i d found in
    none_counted t xs (omega (
      arith,
      once,
      sum_by-append (λ (x : X). cond {A = ℕ} (t x) 1 0) xs ys,
      counted_at t ys i d here.0 here.1,
    ))

-- it is found from its place on, which lies behind so many
pub found_behind : {X : Type 0} (t : X → Bool) (xs : List X) (n i : ℕ) (d : X) → count_by t xs ≤ 1 → position t (drop n xs) ≡ Some i
    → find t (drop (n + i) xs) ≡ find t xs
found_behind {X} t xs n i d once found =
    let halves : take n xs ++ drop n xs ≡ xs = take-append-drop n xs in
    let none : find t (take n xs) ≡ None = none_before t (take n xs) (drop n xs) i d found
    (subst (λ (ys : List X). count_by t ys ≤ 1) (sym halves) once) in
    ap (find t) (sym (drop-drop i n xs))
    ∙ passed_over t (drop n xs) i d (position-Some t (drop n xs) i d found).2
    ∙ sym (find-append t (take n xs) (drop n xs) ∙ ap (λ (o : Option X). option_or o (find t (drop n xs))) none)
    ∙ ap (find t) halves

-- or from its place on, which lies before
pub found_before : {X : Type 0} (t : X → Bool) (xs : List X) (n : ℕ) (d : X) (o : Option ℕ) → n ≤ length xs → position t (take n xs) ≡ o
    → find t (drop (unwrap_or o 0) xs) ≡ find t xs
found_before t xs n d None within found = refl
found_before t xs n d (Some i) within found =
    let here = position-Some t (take n xs) i d found in
    let many = length-take-le n xs within in
    passed_over t xs i d (λ k below. ap t (sym (get_or-take n xs k d (omega (arith, below, here.0, many)))) ∙ here.2 k below)

pub place_within : {X : Type 0} (t : X → Bool) (xs : List X) (d : X) (o : Option ℕ) → position t xs ≡ o → unwrap_or o 0 ≤ length xs
place_within t xs d None found = omega arith
place_within t xs d (Some i) found = let here = position-Some t xs i d found in omega (arith, here.0)

-- what stands from a place on to the end
pub to_the_end : {X : Type 0} (n : ℕ) (xs : List X) → take (length xs - n) (drop n xs) ≡ drop n xs
to_the_end n xs = take_all (length xs - n) (drop n xs) (omega (arith, length-drop n xs))
