-- The one element of a list that passes a test, changed at its index.
use Rattle.std.proofs.Common.{◌≡◌, ℕ, ◌<◌, ◌≤◌, suc, zero, Bool, true, false, cond, List, [], ◌∷◌, Some, None, length, refl, ap, sym, ◌∙◌}
use Rattle.std.proofs.Common.{arith}
use Rattle.std.specs.Prelude.{if◌then◌else◌, count_by, find, nat_lt, slice_set, slice_index_or}
use Rattle.std.specs.List.{position, position_or_len}
use Rattle.std.proofs.lemmas.List.Quantifiers.{position-Some}
use Rattle.std.proofs.lemmas.Option.{none-some}
use Rattle.lfs_law.proofs.OneElement.{where_passes, where_none, none_counted, count_cases}

-- what passes at an index is counted
pub counted_at : {X : Type 0} (t : X → Bool) (xs : List X) (i : ℕ) (d : X) → i < length xs → t (slice_index_or xs i d) ≡ true
    → 1 ≤ count_by t xs
counted_at t [] i d within passes = absurd (omega arith)
counted_at t (x ∷ xs) zero d within passes = grind (arith, count_cases t x xs)
counted_at t (x ∷ xs) (suc i) d within passes = omega (arith, count_cases t x xs, counted_at t xs i d (omega arith) passes)

-- where no other passes
pub where_at : {X : Type 0} (t : X → Bool) (f : X → X) (xs : List X) (i : ℕ) (d : X) → i < length xs → t (slice_index_or xs i d) ≡ true
    → count_by t xs ≤ 1
    → slice_set xs i (f (slice_index_or xs i d)) ≡ where_passes t f xs
where_at t f [] i d within passes once = absurd (omega arith)
where_at t f (x ∷ xs) zero d within passes once =
    let none_more : count_by t xs ≡ 0 = grind (arith, count_cases t x xs) in
    rw (passes) (ap (λ ys. f x ∷ ys) (sym (where_none t f xs (none_counted t xs none_more))))
where_at {X = X} t f (x ∷ xs) (suc i) d within passes once = by (t x) refl (λ few. where_at t f xs i d (omega arith) passes few)
  where
    by : (b : Bool) → t x ≡ b → (count_by t xs ≤ 1 → slice_set xs i (f (slice_index_or xs i d)) ≡ where_passes t f xs)
        → x ∷ slice_set xs i (f (slice_index_or xs i d)) ≡ (if b then f x else x) ∷ where_passes t f xs
    by true is later = absurd (grind (arith, count_cases t x xs, counted_at t xs i d (omega arith) passes))
    by false is later = ap (λ ys. x ∷ ys) (later (omega (arith, count_cases t x xs)))

-- ---- by the place that is found

pub at_position : {X : Type 0} (t : X → Bool) (f : X → X) (xs : List X) (i : ℕ) (d y : X) → position t xs ≡ Some i → count_by t xs ≤ 1
    → y ≡ f (slice_index_or xs i d)
    → slice_set xs i y ≡ where_passes t f xs
at_position t f xs i d y found once is =
    let here = position-Some t xs i d found in
    ap (slice_set xs i) is ∙ where_at t f xs i d here.0 here.1 once

none_past : {X : Type 0} (t : X → Bool) (xs : List X) → length xs ≤ position_or_len t xs → find t xs ≡ None
none_past t [] past = refl
none_past t (x ∷ xs) past = by (t x) refl (none_past t xs)
  where
    by : (b : Bool) → t x ≡ b → (length xs ≤ position_or_len t xs → find t xs ≡ None) → find t (x ∷ xs) ≡ None
    by true is later = absurd (grind arith)
    by false is later = grind arith

pub nowhere : {X : Type 0} (t : X → Bool) (xs : List X) → position t xs ≡ None → find t xs ≡ None
nowhere t xs none = by (nat_lt (position_or_len t xs) (length xs)) refl
  where
    by : (b : Bool) → nat_lt (position_or_len t xs) (length xs) ≡ b → find t xs ≡ None
    by true is = absurd (none-some (position_or_len t xs) (sym none ∙ ap (λ (b : Bool). cond b (Some (position_or_len t xs)) None) is))
    by false is = none_past t xs (grind arith)

pub at_no_position : {X : Type 0} (t : X → Bool) (f : X → X) (xs : List X) → position t xs ≡ None → where_passes t f xs ≡ xs
at_no_position t f xs none = where_none t f xs (nowhere t xs none)
