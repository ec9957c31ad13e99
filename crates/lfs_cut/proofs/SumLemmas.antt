-- Sums over lists.
use Rattle.std.proofs.Common.{◌≡◌, ℕ, ◌+◌, ◌*◌, ◌≤◌, Bool, true, false, cond, List, [], ◌∷◌, refl, ap, sym, ◌∙◌, arith, inl, inr}
use Rattle.std.specs.Prelude.{Contains, flat_map, count_by, sum_by}
use Rattle.std.proofs.lemmas.List.Concat.{flat_map-cons}
use Rattle.std.proofs.lemmas.List.Sums.{sum_by-cons, sum_by-append}
use Rattle.lfs_fs.proofs.ContainsLemmas.{contains_cases}
use Rattle.lfs_fs.proofs.CountLemmas.{element_le}

pub sum_same : {X : Type 0} (f g : X → ℕ) (xs : List X) → ((x : X) → f x ≡ g x) → sum_by f xs ≡ sum_by g xs
sum_same f g [] same = refl
sum_same f g (x ∷ xs) same = omega (arith, sum_by-cons f x xs, sum_by-cons g x xs, same x, sum_same f g xs same)

pub sum_flat : {X Y : Type 0} (h : Y → ℕ) (f : X → List Y) (xs : List X) → sum_by h (flat_map f xs) ≡ sum_by (λ x. sum_by h (f x)) xs
sum_flat h f [] = refl
sum_flat h f (x ∷ xs) =
    omega (
      arith,
      ap (sum_by h) (flat_map-cons f x xs),
      sum_by-append h (f x) (flat_map f xs),
      sum_flat h f xs,
      sum_by-cons (λ y. sum_by h (f y)) x xs,
    )

-- the same number for each element that passes a test, of which there is one
pub sum_counted : {X : Type 0} (t : X → Bool) (n : ℕ) (xs : List X) → sum_by (λ x. cond {A = ℕ} (t x) n 0) xs ≡ count_by t xs * n
sum_counted t n [] = omega arith
sum_counted t n (x ∷ xs) =
    omega (
      arith,
      sum_by-cons (λ y. cond {A = ℕ} (t y) n 0) x xs,
      by (t x),
      sum_counted t n xs,
      ap (λ (k : ℕ). k * n) (sum_by-cons (λ y. cond {A =
          ℕ} (t y) 1 0) x xs),
      spread (cond {A = ℕ} (t x) 1 0) (count_by t xs),
    )
  where
    by : (b : Bool) → cond {A = ℕ} b n 0 ≡ cond {A = ℕ} b 1 0 * n
    by true = omega arith
    by false = omega arith

    spread : (a b : ℕ) → (a + b) * n ≡ a * n + b * n
    spread a b = grind arith

none_passes : {X : Type 0} (f : X → ℕ) (t : X → Bool) (xs : List X) → count_by t xs ≡ 0 → ((x : X) → t x ≡ false → f x ≡ 0)
    → sum_by f xs ≡ 0
none_passes f t [] none zero = refl
none_passes f t (x ∷ xs) none zero = by (t x) refl (λ few. none_passes f t xs few zero)
  where
    by : (b : Bool) → t x ≡ b → (count_by t xs ≡ 0 → sum_by f xs ≡ 0) → sum_by f (x ∷ xs) ≡ 0
    by true is rest = absurd (omega (arith, none, sum_by-cons (λ y. cond {A = ℕ} (t y) 1 0) x xs, ap (λ (b : Bool). cond {A = ℕ} b 1 0) is))
    by false is rest =
        let later : sum_by f xs ≡ 0 = rest (omega (arith, none, sum_by-cons (λ y. cond {A = ℕ} (t y) 1 0) x xs)) in
        omega (arith, sum_by-cons f x xs, zero x is, later)

-- a sum that has terms for one element alone
pub sum_one : {X : Type 0} (f : X → ℕ) (t : X → Bool) (xs : List X) (x : X) → Contains xs x → count_by t xs ≤ 1 → t x ≡ true
    → ((y : X) → t y ≡ false → f y ≡ 0) → sum_by f xs ≡ f x
sum_one f t [] x there once passes zero = absurd (none_there there)
  where
    none_there : {X : Type 0} {x : X} → Contains [] x → ⊥
    none_there there = omega arith
sum_one {X} f t (y ∷ ys) x there once passes zero = elim (contains_cases y ys x there) [
  | inl here ↦
      (let one : cond {A = ℕ} (t y) 1 0 ≡ 1 = ap (λ (z : X). cond {A = ℕ} (t z) 1 0) (sym here)
      ∙ ap (λ (b : Bool). cond {A = ℕ} b 1 0) passes in
      let none : count_by t ys ≡ 0 = omega (arith, once, one, sum_by-cons (λ z. cond {A = ℕ} (t z) 1 0) y ys) in
      omega (arith, sum_by-cons f y ys, none_passes f t ys none zero, ap f here))
  | inr later ↦
      (let some : cond {A = ℕ} (t x) 1 0 ≤ count_by t ys = element_le (λ z. cond {A = ℕ} (t z) 1 0) ys x later in
      let one : cond {A = ℕ} (t x) 1 0 ≡ 1 = ap (λ (b : Bool). cond {A = ℕ} b 1 0) passes in
      let not_here : t y ≡ false = out (t y) (omega (arith, once, one, some, sum_by-cons (λ z. cond {A = ℕ} (t z) 1 0) y ys)) in
      let few : count_by t ys ≤ 1 = omega (arith, once, sum_by-cons (λ z. cond {A = ℕ} (t z) 1 0) y ys) in
      omega (arith, sum_by-cons f y ys, zero y not_here, sum_one f t ys x later few passes zero))
]
  where
    out : (b : Bool) → cond {A = ℕ} b 1 0 ≡ 0 → b ≡ false
    out true h = absurd (omega (arith, h))
    out false h = refl
