-- Sums over what is flagged.
use Rattle.std.proofs.Common.{◌≡◌, ℕ, ◌+◌, ◌≤◌, Bool, true, false, List, [], ◌∷◌, Some, refl, ap, sym, ◌∙◌, arith, length, cond, zero, suc}
use Rattle.std.proofs.Common.{set, replicate}
use Rattle.std.specs.Prelude.{sum_by, slice_get, All, ◌||◌}
use Rattle.std.specs.List.{list_any}
use Rattle.std.proofs.lemmas.Bool.{false≢true}
use Rattle.std.proofs.lemmas.Option.{none-some, same_Some}
use Rattle.std.proofs.lemmas.List.Sums.{sum_by-cons}
use Rattle.std.proofs.lemmas.List.Elements.{All-nil, All-cons, All-head, All-tail}
use Rattle.lfs_fs.specs.Ordered.{flagged}

weighs : {X : Type 0} (f : X → ℕ) (x : X) (b c : Bool) → b ≡ c → cond {A = ℕ} b (f x) 0 ≡ cond {A = ℕ} c (f x) 0
weighs f x b c is = ap (λ (t : Bool). cond {A = ℕ} t (f x) 0) is

-- nothing is flagged
pub flagged_none : {X : Type 0} (f : X → ℕ) (xs : List X) (n : ℕ) → flagged f xs (replicate n false) ≡ 0
flagged_none f [] n = refl
flagged_none f (x ∷ xs) zero = refl
flagged_none f (x ∷ xs) (suc n) = omega (arith, flagged_none f xs n)

-- what is flagged is some of all
pub flagged_le : {X : Type 0} (f : X → ℕ) (xs : List X) (flags : List Bool) → flagged f xs flags ≤ sum_by f xs
flagged_le f [] flags = omega arith
flagged_le f (x ∷ xs) [] = omega arith
flagged_le f (x ∷ xs) (true ∷ flags) = omega (arith, flagged_le f xs flags, sum_by-cons f x xs)
flagged_le f (x ∷ xs) (false ∷ flags) = omega (arith, flagged_le f xs flags, sum_by-cons f x xs)

-- all is flagged
pub flagged_all : {X : Type 0} (f : X → ℕ) (xs : List X) (flags : List Bool) → length flags ≡ length xs → All (λ b. b ≡ true) flags
    → flagged f xs flags ≡ sum_by f xs
flagged_all f [] flags same all = refl
flagged_all f (x ∷ xs) [] same all = absurd (omega arith)
flagged_all f (x ∷ xs) (b ∷ flags) same all =
    omega (
      arith,
      flagged_all f xs flags (omega arith) (All-tail (λ (c : Bool). c ≡ true) b flags all),
      weighs f x b true (All-head (λ (c : Bool). c ≡ true) b flags all),
      sum_by-cons f x xs,
    )

-- one is flagged
pub flagged_some : {X : Type 0} (f : X → ℕ) (xs : List X) (flags : List Bool) (i : ℕ) (x : X) → slice_get xs i ≡ Some x
    → slice_get flags i ≡ Some true → f x ≤ flagged f xs flags
flagged_some f [] flags i x at is = absurd (none-some x at)
flagged_some f (y ∷ xs) [] i x at is = absurd (none-some true is)
flagged_some f (y ∷ xs) (b ∷ flags) zero x at is = omega (arith, weighs f y b true (same_Some b true is), ap f (same_Some y x at))
flagged_some f (y ∷ xs) (b ∷ flags) (suc i) x at is = omega (arith, flagged_some f xs flags i x at is)

-- there is room for one that isn't
pub flagged_room : {X : Type 0} (f : X → ℕ) (xs : List X) (flags : List Bool) (i : ℕ) (x : X) → slice_get xs i ≡ Some x
    → slice_get flags i ≡ Some false → flagged f xs flags + f x ≤ sum_by f xs
flagged_room f [] flags i x at is = absurd (none-some x at)
flagged_room f (y ∷ xs) [] i x at is = absurd (none-some false is)
flagged_room f (y ∷ xs) (b ∷ flags) zero x at is = omega (
  arith,
  flagged_le f xs flags,
  weighs f y b false (same_Some b false is),
  ap f (same_Some y x at),
  sum_by-cons f y xs,
)
flagged_room f (y ∷ xs) (true ∷ flags) (suc i) x at is = omega (arith, flagged_room f xs flags i x at is, sum_by-cons f y xs)
flagged_room f (y ∷ xs) (false ∷ flags) (suc i) x at is = omega (arith, flagged_room f xs flags i x at is, sum_by-cons f y xs)

-- one more is flagged
pub flagged_set : {X : Type 0} (f : X → ℕ) (xs : List X) (flags : List Bool) (i : ℕ) (x : X) → slice_get xs i ≡ Some x
    → slice_get flags i ≡ Some false → flagged f xs (set flags i true) ≡ flagged f xs flags + f x
flagged_set f [] flags i x at is = absurd (none-some x at)
flagged_set f (y ∷ xs) [] i x at is = absurd (none-some false is)
flagged_set f (y ∷ xs) (b ∷ flags) zero x at is = omega (arith, weighs f y b false (same_Some b false is), ap f (same_Some y x at))
flagged_set f (y ∷ xs) (b ∷ flags) (suc i) x at is = omega (arith, flagged_set f xs flags i x at is)

-- ---- what isn't flagged

-- some flag isn't set
pub some_unset : (test : Bool → Bool) (flags : List Bool) → test true ≡ false → list_any test flags ≡ true
    → (i : ℕ) × (slice_get flags i ≡ Some false)
some_unset test [] set any = cc
some_unset test (true ∷ flags) set any =
    let rest = some_unset test flags set (sym (ap (λ (b : Bool). b || list_any test flags) set) ∙ any) in
    (suc rest.0, rest.1)
some_unset test (false ∷ flags) set any = (0, refl)

-- each flag is set
pub all_set : (test : Bool → Bool) (flags : List Bool) → test false ≡ true → list_any test flags ≡ false → All (λ b. b ≡ true) flags
all_set test [] unset any = All-nil (λ (b : Bool). b ≡ true)
all_set test (true ∷ flags) unset any = All-cons (λ (b : Bool). b ≡ true) true flags refl
    (all_set test flags unset (all_by (test true) (list_any test flags) any))
  where
    all_by : (b c : Bool) → (b || c) ≡ false → c ≡ false
    all_by true c h = cc
    all_by false c h = h
all_set test (false ∷ flags) unset any = absurd (false≢true (sym any ∙ ap (λ (b : Bool). b || list_any test flags) unset))
