-- An element put at its place among others that rise by a key.
use Rattle.std.proofs.Common.{◌≡◌, ◌≢◌, ℕ, ◌<◌, ◌≤◌, ◌==◌, Bool, true, false, List, [], ◌∷◌, length, refl, ap, ◌∙◌, arith, suc, zero}
use Rattle.std.proofs.Common.{nat_lt, inl, inr}
use Rattle.std.specs.Prelude.{insert, slice_set, slice_index_or}
use Rattle.std.specs.List.{prefix_len}
use Rattle.std.proofs.lemmas.Bool.{cases_lt, cases_order}
use Rattle.std.proofs.lemmas.Bool.Decides.{nat_tests}
use Rattle.lfs_meta.specs.Attribute.{Attributes, put_by, set_attribute}

abbrev pub is_lesser : {A : Type 0} → (A → ℕ) → ℕ → A → Bool
is_lesser key kind a = nat_lt (key a) kind

abbrev pub place : {A : Type 0} → (A → ℕ) → ℕ → List A → ℕ
place key kind xs = prefix_len (is_lesser key kind) xs

put_lesser : {A : Type 0} (key : A → ℕ) (new a : A) (xs : List A) → key a < key new → put_by key new (a ∷ xs) ≡ a ∷ put_by key new xs
unfolding put_by
put_lesser key new a xs h =
    let no_less : nat_lt (key new) (key a) ≡ false = grind (arith, nat_tests) in
    let no_same : (key new == key a) ≡ false = grind (arith, nat_tests) in
    rw (no_less, no_same) refl

put_same : {A : Type 0} (key : A → ℕ) (new a : A) (xs : List A) → key a ≡ key new → put_by key new (a ∷ xs) ≡ new ∷ xs
unfolding put_by
put_same key new a xs h =
    let no_less : nat_lt (key new) (key a) ≡ false = grind (arith, nat_tests) in
    let same : (key new == key a) ≡ true = grind (arith, nat_tests) in
    rw (no_less, same) refl

put_greater : {A : Type 0} (key : A → ℕ) (new a : A) (xs : List A) → key new < key a → put_by key new (a ∷ xs) ≡ new ∷ a ∷ xs
unfolding put_by
put_greater key new a xs h =
    let less : nat_lt (key new) (key a) ≡ true = grind (arith, nat_tests) in
    rw less refl

pub set_lesser : (k : ℕ) (v : List ℕ) (a : ℕ × List ℕ) (xs : Attributes) → a.0 < k → set_attribute k v (a ∷ xs) ≡ a ∷ set_attribute k v xs
set_lesser k v a xs h = put_lesser (λ b. b.0) (k, v) a xs h

pub set_same : (k : ℕ) (v : List ℕ) (a : ℕ × List ℕ) (xs : Attributes) → a.0 ≡ k → set_attribute k v (a ∷ xs) ≡ (k, v) ∷ xs
set_same k v a xs h = put_same (λ b. b.0) (k, v) a xs h

pub set_greater : (k : ℕ) (v : List ℕ) (a : ℕ × List ℕ) (xs : Attributes) → k < a.0 → set_attribute k v (a ∷ xs) ≡ (k, v) ∷ a ∷ xs
set_greater k v a xs h = put_greater (λ b. b.0) (k, v) a xs h

place_lesser : {A : Type 0} (key : A → ℕ) (k : ℕ) (a : A) (xs : List A) → key a < k → place key k (a ∷ xs) ≡ suc (place key k xs)
place_lesser key k a xs h =
    let less : nat_lt (key a) k ≡ true = grind (arith, nat_tests) in
    rw less (omega arith)

place_other : {A : Type 0} (key : A → ℕ) (k : ℕ) (a : A) (xs : List A) → k ≤ key a → place key k (a ∷ xs) ≡ 0
place_other key k a xs h =
    let no_less : nat_lt (key a) k ≡ false = grind (arith, nat_tests) in
    rw no_less refl

-- the key is not there: the element goes in before the first greater one
pub put_by-new : {A : Type 0} (key : A → ℕ) (new : A) (xs : List A) (at : ℕ) → at ≡ place key (key new) xs
    → (at < length xs → (d : A) → key (slice_index_or xs at d) ≢ key new)
    → put_by key new xs ≡ insert xs at new
unfolding put_by
put_by-new key new [] zero is free = refl
put_by-new key new [] (suc at) is free = absurd (omega (arith, is))
put_by-new key new (a ∷ xs) zero is free = elim (cases_order (key a) (key new)) [
  | inl same ↦ absurd (free (omega arith) a same)
  | inr other ↦ elim other [
    | inl less ↦ let e : place key (key new) (a ∷ xs) ≡ suc (place key (key new) xs) = place_lesser key (key new) a xs less in
        absurd (omega (arith, is, e))
    | inr more ↦ put_greater key new a xs more
  ]
]
put_by-new key new (a ∷ xs) (suc at) is free = elim (cases_lt (key a) (key new)) [
  | inl less ↦
      let e : place key (key new) (a ∷ xs) ≡ suc (place key (key new) xs) = place_lesser key (key new) a xs less in
      let at_is : at ≡ place key (key new) xs = omega (arith, is, e) in
      put_lesser key new a xs less ∙ ap (λ t. a ∷ t) (put_by-new key new xs at at_is (λ within d. free (omega arith) d))
  | inr other ↦ let e : place key (key new) (a ∷ xs) ≡ 0 = place_other key (key new) a xs other in absurd (omega (arith, is, e))
]

-- the key is there: its element is replaced
pub put_by-old : {A : Type 0} (key : A → ℕ) (new : A) (xs : List A) (at : ℕ) → at ≡ place key (key new) xs
    → at < length xs → ((d : A) → key (slice_index_or xs at d) ≡ key new)
    → put_by key new xs ≡ slice_set xs at new
put_by-old key new [] at is within there = absurd (omega arith)
put_by-old key new (a ∷ xs) zero is within there = put_same key new a xs (there a)
put_by-old key new (a ∷ xs) (suc at) is within there = elim (cases_lt (key a) (key new)) [
  | inl less ↦
      let e : place key (key new) (a ∷ xs) ≡ suc (place key (key new) xs) = place_lesser key (key new) a xs less in
      let at_is : at ≡ place key (key new) xs = omega (arith, is, e) in
      put_lesser key new a xs less ∙ ap (λ t. a ∷ t) (put_by-old key new xs at at_is (omega arith) there)
  | inr other ↦ let e : place key (key new) (a ∷ xs) ≡ 0 = place_other key (key new) a xs other in absurd (omega (arith, is, e))
]
