-- Names are in a strict total order.
use Rattle.std.proofs.Common.{◌≡◌, ◌≢◌, ℕ, ◌<◌, ◌⊎◌, true, false, [], ◌∷◌, refl, arith}
use Rattle.std.proofs.lemmas.Bool.Decides.{nat_tests}
use mathlib.Core.Logic.{inl, inr}
use Rattle.lfs_meta.specs.Name.{Name}
use Rattle.lfs_fs.specs.NameOrder.{precedes, IsStrictOrder}

-- the first bytes decide, or the rest does
pub precedes_cases : (a b : ℕ) (x y : Name) → ((a < b) × (precedes (a ∷ x) (b ∷ y) ≡ true)) ⊎ ((b < a) × (precedes (a ∷ x) (b ∷ y) ≡ false))
    ⊎ ((a ≡ b) × (precedes (a ∷ x) (b ∷ y) ≡ precedes x y))
precedes_cases a b x y = grind (arith, nat_tests)

pub precedes_irreflexive : (a : Name) → precedes a a ≡ false
precedes_irreflexive [] = refl
precedes_irreflexive (a ∷ x) = grind (arith, nat_tests, precedes_irreflexive x)

pub precedes_transitive : (a b c : Name) → precedes a b ≡ true → precedes b c ≡ true → precedes a c ≡ true
precedes_transitive [] b c h k = cc
precedes_transitive (a ∷ x) [] c h k = cc
precedes_transitive (a ∷ x) (b ∷ y) [] h k = refl
precedes_transitive (a ∷ x) (b ∷ y) (c ∷ z) h k = grind (
  arith,
  precedes_cases a b x y,
  precedes_cases b c y z,
  precedes_cases a c x z,
  precedes_transitive x y z,
)

-- one comes first, or they are equal
pub precedes_compares : (a b : Name) → (precedes a b ≡ true) ⊎ (precedes b a ≡ true) ⊎ (a ≡ b)
precedes_compares [] [] = inr (inr refl)
precedes_compares [] (b ∷ y) = inr (inl refl)
precedes_compares (a ∷ x) [] = inl refl
precedes_compares (a ∷ x) (b ∷ y) = grind (arith, precedes_cases a b x y, precedes_cases b a y x, precedes_compares x y)

precedes_total : (a b : Name) → a ≢ b → (precedes a b ≡ true) ⊎ (precedes b a ≡ true)
precedes_total a b different = elim (precedes_compares a b) [
  | inl h ↦ inl h
  | inr h ↦ elim h
      [ inl k ↦ inr k | inr same ↦ absurd (different same) ]
]

pub names_are_ordered : IsStrictOrder precedes
names_are_ordered = record { irreflexive = precedes_irreflexive; transitive = precedes_transitive; total = precedes_total }
