-- The order in which a directory's names stand (own; SPEC.md, "0x0xx name", asks for alphabetical order).
use Rattle.std.specs.Prelude.{◌≡◌, ◌≢◌, ◌⊎◌, ◌==◌, nat_lt, Bool, true, false, [], ◌∷◌, if◌then◌else◌}
use Rattle.lfs_meta.specs.Name.{Name}

-- By the first byte in which two names differ; where one name begins the other, the longer one comes first: ab, a, b.
abbrev pub precedes : Name → Name → Bool
precedes (a ∷ x) (b ∷ y) = if a == b then precedes x y else nat_lt a b
precedes (a ∷ x) [] = true
precedes [] y = false

-- a strict total order, as a test
pub record IsStrictOrder {A : Type 0} (before : A → A → Bool) : Type 0 where
  pub irreflexive : (a : A) → before a a ≡ false
  pub transitive : (a b c : A) → before a b ≡ true → before b c ≡ true → before a c ≡ true
  pub total : (a b : A) → a ≢ b → (before a b ≡ true) ⊎ (before b a ≡ true)

-- the law: names are in a strict total order
abbrev pub NamesAreOrdered : Type 0
NamesAreOrdered = IsStrictOrder precedes
