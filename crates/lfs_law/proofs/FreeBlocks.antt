-- The least free blocks of a volume are taken once each, and nothing uses them.
use Rattle.std.proofs.Common.{◌≡◌, ◌==◌, ℕ, ◌+◌, ◌<◌, ◌≤◌, nat_lt, Bool, true, false, ◌∷◌, List, suc, zero, take, length, get_or, refl}
use Rattle.std.proofs.Common.{subst, arith}
use Rattle.std.specs.Prelude.{if◌then◌else◌, All, AllPairs, Contains}
use Rattle.std.specs.List.{filter, range_with_len}
use Rattle.std.proofs.lemmas.Bool.Decides.{nat_tests}
use Rattle.std.proofs.lemmas.List.{get_or-take, length-take}
use Rattle.std.proofs.lemmas.List.Elements.{All-weaker, All-contains_itself}
use Rattle.std.proofs.lemmas.List.FromFn.{get_or-range_with_len, length-range_with_len}
use Rattle.std.proofs.lemmas.List.Kept.{AllPairs-filter}
use Rattle.std.proofs.lemmas.List.Sums.{sum_by-take-le}
use Rattle.lfs_fs.specs.Volume.{Volume}
use Rattle.lfs_fs.specs.Uses.{times, uses}
use Rattle.lfs_fs.specs.Free.{free_blocks}
use Rattle.lfs_law.proofs.OneElement.{count_cases}
use Rattle.lfs_law.proofs.WrittenLemmas.{times_there}

-- a number is kept once of a range, and not at all where it lies below
kept_once : (t : ℕ → Bool) (b a n : ℕ) → times b (filter t (range_with_len a n)) + (if nat_lt b a then 1 else 0) ≤ 1
kept_once t b a zero = grind (arith, nat_tests)
kept_once t b a (suc n) = by (t a) (kept_once t b (a + 1) n)
  where
    by : (s : Bool) → times b (filter t (range_with_len (a + 1) n)) + (if nat_lt b (a + 1) then 1 else 0) ≤ 1
        → times b (if s then a ∷ filter t (range_with_len (a + 1) n) else filter t (range_with_len (a + 1) n))
        + (if nat_lt b a then 1 else 0) ≤ 1
    by true rest = grind (arith, nat_tests, rest, count_cases (λ x. x == b) a (filter t (range_with_len (a + 1) n)))
    by false rest = grind (arith, nat_tests, rest)

-- what is kept passes, and is one of the range
kept_passes : (t : ℕ → Bool) (b a n : ℕ) → 1 ≤ times b (filter t (range_with_len a n)) → (t b ≡ true) × (b < a + n)
kept_passes t b a zero some = let no : ⊥ = omega (arith, some) in absurd no
kept_passes t b a (suc n) some = by (t a) refl some (kept_passes t b (a + 1) n)
  where
    later : (1 ≤ times b (filter t (range_with_len (a + 1) n)) → (t b ≡ true) × (b < a + 1 + n))
        → 1 ≤ times b (filter t (range_with_len (a + 1) n)) → (t b ≡ true) × (b < a + suc n)
    later rest there = let r = rest there in (r.0, omega (arith, r.1))

    this : (s : Bool) → (a == b) ≡ s → t a ≡ true → 1 ≤ (if s then 1 else 0) + times b (filter t (range_with_len (a + 1) n))
        → (1 ≤ times b (filter t (range_with_len (a + 1) n)) → (t b ≡ true) × (b < a + 1 + n))
        → (t b ≡ true) × (b < a + suc n)
    this true same is there rest = let equal : a ≡ b = grind (arith, nat_tests, same) in
        (subst (λ (x : ℕ). t x ≡ true) equal is, omega (arith, equal))
    this false other is there rest = later rest (omega (arith, there))

    by : (s : Bool) → t a ≡ s → 1 ≤ times b (if s then a ∷ filter t (range_with_len (a + 1) n) else filter t (range_with_len (a + 1) n))
        → (1 ≤ times b (filter t (range_with_len (a + 1) n)) → (t b ≡ true) × (b < a + 1 + n))
        → (t b ≡ true) × (b < a + suc n)
    by true is there rest = this (a == b) refl is (omega (arith, there, count_cases (λ x. x == b) a (filter t (range_with_len (a + 1) n))))
        rest
    by false is there rest = later rest there

-- ---- the least free blocks

pub taken_once : (v : Volume) (n b : ℕ) → times b (take n (free_blocks v)) ≤ 1
taken_once v n b = omega (
  arith,
  kept_once (λ x. uses x v == 0) b 0 v.count,
  sum_by-take-le (λ (x : ℕ). if x == b then 1 else 0) (free_blocks v) n,
)

pub taken_free : (v : Volume) (n b : ℕ) → 1 ≤ times b (take n (free_blocks v)) → (uses b v ≡ 0) × (b < v.count)
taken_free v n b some =
    let kept = kept_passes (λ x. uses x v == 0) b 0 v.count (omega (
      arith,
      some,
      sum_by-take-le (λ (x : ℕ). if x == b then 1 else 0) (free_blocks v) n,
    )) in
    (grind (arith, nat_tests, kept.0), omega (arith, kept.1))

pub taken_unused : (v : Volume) (n b : ℕ) → Contains (take n (free_blocks v)) b → uses b v ≡ 0
taken_unused v n b there = (taken_free v n b (times_there b (take n (free_blocks v)) there)).0

-- ---- they rise, and are blocks of the volume

pub range_rises : (a n : ℕ) → AllPairs ◌<◌ (range_with_len a n)
range_rises a n i j d less within =
    let long : length (range_with_len a n) ≡ n = length-range_with_len a n in
    let before : get_or (range_with_len a n) i d ≡ a + i = get_or-range_with_len a n i d (omega (arith, less, within, long)) in
    let behind : get_or (range_with_len a n) j d ≡ a + j = get_or-range_with_len a n j d (omega (arith, within, long)) in
    omega (arith, before, behind, less)

take_rises : (n : ℕ) (xs : List ℕ) → AllPairs ◌<◌ xs → AllPairs ◌<◌ (take n xs)
take_rises n xs rise i j d less within =
    let fits = length-take n xs in
    let before : get_or (take n xs) i d ≡ get_or xs i d = get_or-take n xs i d (omega (arith, less, within, fits)) in
    let behind : get_or (take n xs) j d ≡ get_or xs j d = get_or-take n xs j d (omega (arith, within, fits)) in
    let all : get_or xs i d < get_or xs j d = rise i j d less (omega (arith, within, fits)) in
    omega (arith, before, behind, all)

pub taken_rise : (v : Volume) (n : ℕ) → AllPairs ◌<◌ (take n (free_blocks v))
taken_rise v n = take_rises n (free_blocks v) (AllPairs-filter ◌<◌ (λ b. uses b v == 0) (range_with_len 0 v.count) (range_rises 0 v.count))

pub taken_below : (v : Volume) (n : ℕ) → All (λ b. b < v.count) (take n (free_blocks v))
taken_below v n =
    All-weaker (Contains (take n (free_blocks v))) (λ (b : ℕ). b < v.count)
    (λ b there. (taken_free v n b (times_there b (take n (free_blocks v)) there)).1)
    (take n (free_blocks v)) (All-contains_itself (take n (free_blocks v)))
