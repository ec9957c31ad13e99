-- The pairs of superblocks are of blocks of the disk, none named twice.
use Rattle.std.proofs.Common.{◌≡◌, ◌≢◌, ℕ, ◌+◌, ◌<◌, ◌≤◌, Bool, true, false, List, [], ◌∷◌, ◌++◌, Option, Some, None, zero, suc, refl, arith}
use Rattle.std.specs.Prelude.{if◌then◌else◌}
use Rattle.std.proofs.lemmas.Bool.Decides.{nat_tests}
use Rattle.std.proofs.lemmas.List.Sums.{sum_by-cons}
use Rattle.lfs_meta.specs.Body.{Pair}
use Rattle.lfs_fs.specs.Front.{pair_names, pairs_name}
use Rattle.lfs_fs.proofs.ThreadReadLemmas.{pairs_more}
use Rattle.lfs_lower.specs.OneSuperblock.{is_fresh, pairs_along}

-- pairs are of blocks of the disk, none named twice
pub record AreFresh (count : ℕ) (ps : List Pair) : Type 0 where
  pub within : (b : ℕ) → 0 < pairs_name b ps → b < count
  pub once : (b : ℕ) → pairs_name b ps ≤ 1

-- ---- one pair

-- what the test says
pub record IsFresh (count : ℕ) (before : List Pair) (p : Pair) : Type 0 where
  pub first : p.0 < count
  pub second : p.1 < count
  pub apart : p.0 ≢ p.1
  pub first_new : pairs_name p.0 before ≡ 0
  pub second_new : pairs_name p.1 before ≡ 0

pub fresh_is : (count : ℕ) (before : List Pair) (p : Pair) → is_fresh count before p ≡ true → IsFresh count before p
fresh_is count before p h = record {
  first = grind (arith, nat_tests);
  second = grind (arith, nat_tests);
  apart = grind (arith, nat_tests);
  first_new = grind (arith, nat_tests);
  second_new = grind (arith, nat_tests);
}

pub is_fresh_is : (count : ℕ) (before : List Pair) (p : Pair) → IsFresh count before p → is_fresh count before p ≡ true
is_fresh_is count before p h = grind (arith, nat_tests, h.first, h.second, h.apart, h.first_new, h.second_new)

-- ---- pairs along a step

within_by : (t : Bool) (count : ℕ) (before : List Pair) (p : Pair) (rest : List Pair) (b : ℕ) → is_fresh count before p ≡ t
    → (0 < pairs_name b rest → b < count) → 0 < pairs_name b (if t then p ∷ rest else []) → b < count
within_by true count before p rest b is more some =
    let fresh = fresh_is count before p is in
    let first = fresh.first in
    let second = fresh.second in
    grind (arith, nat_tests, sum_by-cons (pair_names b) p rest)
within_by false count before p rest b is more some = absurd (omega arith)

-- each block that they name is one of the disk's
along_within : (step : Pair → Option Pair) (count : ℕ) (before : List Pair) (n : ℕ) (from : Option Pair) (b : ℕ)
    → 0 < pairs_name b (pairs_along step count before n from) → b < count
along_within step count before zero from b some = absurd (omega arith)
along_within step count before (suc n) None b some = absurd (omega arith)
along_within step count before (suc n) (Some p) b some =
    let rest = pairs_along step count (before ++ p ∷ []) n (step p) in
    within_by (is_fresh count before p) count before p rest b refl (along_within step count (before ++ p ∷ []) n (step p) b) some

one_more : (count : ℕ) (before : List Pair) (p : Pair) (b : ℕ) → IsFresh count before p → pairs_name b before ≤ 1
    → pairs_name b (before ++ p ∷ []) ≤ 1
one_more count before p b fresh once =
    let more = pairs_more b before p in
    let apart = fresh.apart in
    let first = fresh.first_new in
    let second = fresh.second_new in
    grind (arith, nat_tests)

once_by : (t : Bool) (count : ℕ) (before : List Pair) (p : Pair) (rest : List Pair) (b : ℕ) → is_fresh count before p ≡ t
    → pairs_name b before ≤ 1 → (pairs_name b (before ++ p ∷ []) ≤ 1 → pairs_name b (before ++ p ∷ []) + pairs_name b rest ≤ 1)
    → pairs_name b before + pairs_name b (if t then p ∷ rest else []) ≤ 1
once_by true count before p rest b is once more =
    let all = more (one_more count before p b (fresh_is count before p is) once) in
    omega (arith, pairs_more b before p, sum_by-cons (pair_names b) p rest)
once_by false count before p rest b is once more = omega arith

-- none is named twice, nor one that was named before
along_once : (step : Pair → Option Pair) (count : ℕ) (before : List Pair) (n : ℕ) (from : Option Pair) (b : ℕ) → pairs_name b before ≤ 1
    → pairs_name b before + pairs_name b (pairs_along step count before n from) ≤ 1
along_once step count before zero from b once = omega arith
along_once step count before (suc n) None b once = omega arith
along_once step count before (suc n) (Some p) b once =
    let rest = pairs_along step count (before ++ p ∷ []) n (step p) in
    once_by (is_fresh count before p) count before p rest b refl once (along_once step count (before ++ p ∷ []) n (step p) b)

pub along_fresh : (step : Pair → Option Pair) (count n : ℕ) (from : Option Pair) → AreFresh count (pairs_along step count [] n from)
along_fresh step count n from = record {
  within = along_within step count [] n from;
  once = λ b. let all = along_once step count [] n from b (omega arith) in omega arith;
}
