-- Attributes with a kind set or removed stay within the limit, and rise.
use Rattle.std.proofs.Common.{◌≡◌, ℕ, ◌<◌, ◌≤◌, ◌==◌, nat_lt, not, Bool, true, false, List, [], ◌∷◌, refl, arith, length}
use Rattle.std.specs.Prelude.{All, if◌then◌else◌}
use Rattle.std.proofs.lemmas.Bool.Decides.{nat_tests}
use Rattle.std.proofs.lemmas.List.Elements.{All-head, All-tail, All-cons, All-nil, All-weaker, All-filter}
use Rattle.lfs_meta.specs.Attribute.{Attributes, put_by, set_attribute, remove_attribute}
use Rattle.lfs_fs.specs.Sound.{AreAttributes}

abbrev After : ℕ → Attributes → Type 0
After k kept = All (λ (b : ℕ × List ℕ). k < b.0) kept

set_after_by : (j k : ℕ) (value : List ℕ) (a : ℕ × List ℕ) (more : Attributes) (less same : Bool) → j < k → After j (a ∷ more)
    → After j (set_attribute k value more)
    → After j (if less then (k, value) ∷ a ∷ more else (if same then (k, value) ∷ more else a ∷ set_attribute k value more))
set_after_by j k value a more true same lt h rest = All-cons (λ (b : ℕ × List ℕ). j < b.0) (k, value) (a ∷ more) lt h
set_after_by j k value a more false true lt h rest = All-cons (λ (b : ℕ × List ℕ). j < b.0) (k, value) more lt
    (All-tail (λ (b : ℕ × List ℕ). j < b.0) a more h)
set_after_by j k value a more false false lt h rest = All-cons (λ (b : ℕ × List ℕ). j < b.0) a (set_attribute k value more)
    (All-head (λ (b : ℕ × List ℕ). j < b.0) a more h) rest

set_after : (j k : ℕ) (value : List ℕ) (kept : Attributes) → j < k → After j kept → After j (set_attribute k value kept)
unfolding put_by
set_after j k value [] lt h = All-cons (λ (b : ℕ × List ℕ). j < b.0) (k, value) [] lt h
set_after j k value (a ∷ more) lt h = set_after_by j k value a more (nat_lt k a.0) (k == a.0) lt h
    (set_after j k value more lt (All-tail (λ (b : ℕ × List ℕ). j < b.0) a more h))

set_good_by : (limit k : ℕ) (value : List ℕ) (a : ℕ × List ℕ) (more : Attributes) (less same : Bool) → nat_lt k a.0 ≡ less
    → (k == a.0) ≡ same → length value ≤ limit
    → AreAttributes limit (a ∷ more) → AreAttributes limit (set_attribute k value more)
    → AreAttributes limit (if less then (k, value) ∷ a ∷ more else (if same then (k, value) ∷ more else a ∷ set_attribute k value more))
set_good_by limit k value a more true same is_less is_same fits h rest =
    let lt : k < a.0 = grind (arith, nat_tests) in (
      fits,
      All-cons (λ (b : ℕ × List ℕ). k < b.0) a more lt (All-weaker (λ (b : ℕ × List ℕ). a.0 < b.0) (λ (b : ℕ × List ℕ). k < b.0)
          (λ b later. omega (arith, lt, later)) more h.1),
      h,
    )
set_good_by limit k value a more false true is_less is_same fits h rest =
    let eq : k ≡ a.0 = grind (arith, nat_tests) in
    (fits, All-weaker (λ (b : ℕ × List ℕ). a.0 < b.0) (λ (b : ℕ × List ℕ). k < b.0) (λ b later. omega (arith, eq, later)) more h.1, h.2)
set_good_by limit k value a more false false is_less is_same fits h rest =
    let lt : a.0 < k = grind (arith, nat_tests) in
    (h.0, set_after a.0 k value more lt h.1, rest)

pub set_good : (limit k : ℕ) (value : List ℕ) (kept : Attributes) → length value ≤ limit → AreAttributes limit kept
    → AreAttributes limit (set_attribute k value kept)
unfolding put_by
set_good limit k value [] fits h = (fits, All-nil (λ (b : ℕ × List ℕ). k < b.0), h)
set_good limit k value (a ∷ more) fits h = set_good_by limit k value a more (nat_lt k a.0) (k == a.0) refl refl fits h
    (set_good limit k value more fits h.2)

remove_good_by : (limit k : ℕ) (a : ℕ × List ℕ) (more : Attributes) (stays : Bool) → AreAttributes limit (a ∷ more)
    → AreAttributes limit (remove_attribute k more)
    → AreAttributes limit (if stays then a ∷ remove_attribute k more else remove_attribute k more)
remove_good_by limit k a more true h rest = (
  h.0,
  All-filter (λ (b : ℕ × List ℕ). not (k == b.0)) (λ (b : ℕ × List ℕ). a.0 < b.0) more h.1,
  rest,
)
remove_good_by limit k a more false h rest = rest

pub remove_good : (limit k : ℕ) (kept : Attributes) → AreAttributes limit kept → AreAttributes limit (remove_attribute k kept)
remove_good limit k [] h = h
remove_good limit k (a ∷ more) h = remove_good_by limit k a more (not (k == a.0)) h (remove_good limit k more h.2)
