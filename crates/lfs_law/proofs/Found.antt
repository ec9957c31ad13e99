-- What `find` finds in a list, and its share in a sum over the list.
use Rattle.std.proofs.Common.{◌≡◌, ◌⊎◌, ℕ, ◌+◌, ◌≤◌, Bool, true, false, List, [], ◌∷◌, Option, Some, refl, ap, sym, ◌∙◌, arith, inl, inr}
use Rattle.std.specs.Prelude.{sum_by, find, if◌then◌else◌}
use Rattle.std.proofs.lemmas.List.Sums.{sum_by-cons}
use Rattle.std.proofs.lemmas.Option.{none-some, same_Some}

found_cases : {X : Type 0} (b : Bool) (z x : X) (o : Option X) → (if b then Some z else o) ≡ Some x
    → ((b ≡ true) × (z ≡ x)) ⊎ ((b ≡ false) × (o ≡ Some x))
found_cases true z x o h = inl (refl, same_Some z x h)
found_cases false z x o h = inr (refl, h)

pub found_passes : {X : Type 0} (a : X → Bool) (xs : List X) (x : X) → find a xs ≡ Some x → a x ≡ true
found_passes a [] x h = absurd (none-some x h)
found_passes a (z ∷ zs) x h = elim (found_cases (a z) z x (find a zs) h) [ inl t ↦ ap a (sym t.1) ∙ t.0 | inr t ↦ found_passes a zs x t.1 ]

pub found_le : {X : Type 0} (f : X → ℕ) (a : X → Bool) (xs : List X) (x : X) → find a xs ≡ Some x → f x ≤ sum_by f xs
found_le f a [] x h = absurd (none-some x h)
found_le f a (z ∷ zs) x h = elim (found_cases (a z) z x (find a zs) h) [
  | inl t ↦ (let same : f z ≡ f x = ap f t.1 in omega (arith, same, sum_by-cons f z zs))
  | inr t ↦ omega (arith, found_le f a zs x t.1, sum_by-cons f z zs)
]

-- two different elements add up
pub two_found_le : {X : Type 0} (f : X → ℕ) (a b : X → Bool) (xs : List X) (x y : X) → find a xs ≡ Some x → find b xs ≡ Some y → (x ≡ y → ⊥)
    → f x + f y ≤ sum_by f xs
two_found_le f a b [] x y h k different = absurd (none-some x h)
two_found_le f a b (z ∷ zs) x y h k different = elim (found_cases (a z) z x (find a zs) h) [
  | inl t ↦ (elim (found_cases (b z) z y (find b zs) k) [
    | inl u ↦ absurd (different (sym t.1 ∙ u.1))
    | inr u ↦ (let same : f z ≡ f x = ap f t.1 in omega (arith, same, found_le f b zs y u.1, sum_by-cons f z zs))
  ])
  | inr t ↦ (elim (found_cases (b z) z y (find b zs) k) [
    | inl u ↦ (let same : f z ≡ f y = ap f u.1 in omega (arith, same, found_le f a zs x t.1, sum_by-cons f z zs))
    | inr u ↦ omega (arith, two_found_le f a b zs x y t.1 u.1 different, sum_by-cons f z zs)
  ])
]
