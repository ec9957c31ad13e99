-- Blocks from one on.
use Rattle.std.proofs.Common.{◌≡◌, ◌+◌, ◌-◌, ◌<◌, ◌≤◌, ◌==◌, ℕ, suc, zero, Bool, true, false, List, [], ◌∷◌, take, refl, ap, sym, ◌∙◌, arith, ◌⊎◌, inl, inr, cond}
use Rattle.std.specs.Prelude.{nat_le}
use Rattle.std.specs.List.{filter, range_with_len}
use Rattle.std.proofs.lemmas.Bool.Decides.{nat_tests}
use Rattle.lfs_fs.specs.Uses.{times}
use Rattle.lfs_law.proofs.LinksAdded.{times_cons}

-- the first of them
pub take_range : (from n k : ℕ) → k ≤ n → take k (range_with_len from n) ≡ range_with_len from k
take_range from n zero le = refl
take_range from zero (suc k) le = absurd (omega (arith, le))
take_range from (suc n) (suc k) le = ap (λ (l : List ℕ). from ∷ l) (take_range (from + 1) n k (omega (arith, le)))

-- how often a number stands there
abbrev pub once_if : Bool → Bool → ℕ
once_if true false = 1
once_if _ _ = 0

pub times_range : (b from n : ℕ) → times b (range_with_len from n) ≡ once_if (nat_le from b) (nat_le (from + n) b)
times_range b from zero = by (nat_le from b) (nat_le (from + 0) b) refl refl
  where
    by : (s t : Bool) → nat_le from b ≡ s → nat_le (from + 0) b ≡ t → times b [] ≡ once_if s t
    by true true h k = refl
    by true false h k = absurd (grind (arith, nat_tests))
    by false t h k = refl
times_range b from (suc n) =
    times_cons b from (range_with_len (from + 1) n)
    ∙ ap (λ (k : ℕ). cond {A = ℕ} (from == b) 1 0 + k) (times_range b (from + 1) n)
    ∙ by (from == b) (nat_le (from + 1) b) (nat_le (from + 1 + n) b) (nat_le from b) (nat_le (from + suc n) b) refl refl refl refl refl
  where
    by : (a c e s t : Bool) → (from == b) ≡ a → nat_le (from + 1) b ≡ c → nat_le (from + 1 + n) b ≡ e → nat_le from b ≡ s
        → nat_le (from + suc n) b ≡ t → cond {A = ℕ} a 1 0 + once_if c e ≡ once_if s t
    by true true e s t ha hc he hs ht = absurd (grind (arith, nat_tests))
    by true false e true false ha hc he hs ht = refl
    by true false e true true ha hc he hs ht = absurd (grind (arith, nat_tests))
    by true false e false t ha hc he hs ht = absurd (grind (arith, nat_tests))
    by false true true true true ha hc he hs ht = refl
    by false true true true false ha hc he hs ht = absurd (grind (arith, nat_tests))
    by false true true false t ha hc he hs ht = absurd (grind (arith, nat_tests))
    by false true false true false ha hc he hs ht = refl
    by false true false true true ha hc he hs ht = absurd (grind (arith, nat_tests))
    by false true false false t ha hc he hs ht = absurd (grind (arith, nat_tests))
    by false false e true t ha hc he hs ht = absurd (grind (arith, nat_tests))
    by false false e false t ha hc he hs ht = refl

-- ---- those that pass a test which the numbers from one on pass

all_pass : (test : ℕ → Bool) (from n : ℕ) → ((b : ℕ) → from ≤ b → b < from + n → test b ≡ true)
    → filter test (range_with_len from n) ≡ range_with_len from n
all_pass test from zero each = refl
all_pass test from (suc n) each =
    rw (each from (omega arith) (omega arith))
    (ap (λ (l : List ℕ). from ∷ l) (all_pass test (from + 1) n (λ b lo hi. each b (omega (arith, lo)) (omega (arith, hi)))))

first_fails : (test : ℕ → Bool) (from n : ℕ) → test from ≡ false
    → filter test (range_with_len from (suc n)) ≡ filter test (range_with_len (from + 1) n)
first_fails test from n fails = rw fails refl

at_or_above : (k b : ℕ) → k ≤ b → nat_le k b ≡ true
at_or_above k b le = grind (arith, nat_tests)

below_it : (k b : ℕ) → b < k → nat_le k b ≡ false
below_it k b lt = grind (arith, nat_tests)

pub filter_from : (test : ℕ → Bool) (from n k : ℕ) → from ≤ k → k ≤ from + n → ((b : ℕ) → b < from + n → test b ≡ nat_le k b)
    → filter test (range_with_len from n) ≡ range_with_len k (from + n - k)
filter_from test from zero k le within is =
    let none : from + 0 - k ≡ 0 = omega (arith, le) in ap (λ (n : ℕ). range_with_len k n) (sym none)
filter_from test from (suc n) k le within is = elim (here_or_later from k le) [
  | inl here ↦ all_pass test from (suc n) (λ b lo hi. is b hi ∙ at_or_above k b (omega (arith, lo, here)))
      ∙ all_left from (suc n) k here
  | inr later ↦ first_fails test from n (is from (omega arith) ∙ below_it k from later)
      ∙ filter_from test (from + 1) n k (omega (arith, later)) (omega (arith, within)) (λ b lt. is b (omega (arith, lt)))
      ∙ ap (range_with_len k) (omega arith)
]
  where
    here_or_later : (x y : ℕ) → x ≤ y → (x ≡ y) ⊎ (x < y)
    here_or_later x y le = by (x == y) refl
      where
        by : (t : Bool) → (x == y) ≡ t → (x ≡ y) ⊎ (x < y)
        by true is = inl (grind (arith, nat_tests))
        by false is = inr (grind (arith, nat_tests))

    all_left : (x m y : ℕ) → x ≡ y → range_with_len x m ≡ range_with_len y (x + m - y)
    all_left x m y same = let count : x + m - y ≡ m = omega (arith, same) in rw (count, same) refl
