-- The pairs along the thread are its longest front.
use Rattle.std.proofs.Common.{◌≡◌, ℕ, zero, suc, ◌+◌, ◌<◌, ◌≤◌, Bool, true, false, List, [], ◌∷◌, ◌++◌, length, map, Option, Some, None}
use Rattle.std.proofs.Common.{refl, ap, sym, ◌∙◌, subst, arith, append_assoc}
use Rattle.std.specs.Prelude.{if◌then◌else◌}
use Rattle.std.specs.List.{AllByRecursion, IsDistinct, list_any}
use Rattle.std.proofs.lemmas.Bool.{both_ways, or_cases}
use Rattle.std.proofs.lemmas.Bool.Decides.{nat_tests}
use Rattle.std.proofs.lemmas.List.{length-append, length-map}
use Rattle.std.proofs.lemmas.List.Sums.{sum_by-cons}
use Rattle.std.proofs.lemmas.Map.Keys.{IsDistinct-cons}
use Rattle.std.proofs.lemmas.Map.Steps.{length-le_from_distinct_below}
use lib.Dec.{eqb}
use mathlib.Core.Logic.{inl, inr}
use Rattle.lfs_meta.specs.Body.{Pair}
use Rattle.lfs_fs.specs.Pair.{root}
use Rattle.lfs_fs.specs.Reading.{Reading}
use Rattle.lfs_fs.specs.Front.{Follow, IsFront, IsThread, next_pair, pair_names, pairs_name}
use Rattle.lfs_fs.proofs.ThreadReadLemmas.{pairs_more}
use Rattle.lfs_lower.specs.OneSuperblock.{is_fresh, pairs_along}
use Rattle.lfs_lower.proofs.FreshPairs.{AreFresh, IsFresh, along_fresh, is_fresh_is}
use Rattle.lfs_lower.proofs.LongestFronts.{IsLongest, names_first, thread_is_longest}
use Rattle.lfs_settle.specs.InStep.{thread_pairs}

-- ---- pairs that are apart are at most as many as there are blocks

not_first : (q : ℕ) (p : Pair) → pair_names q p ≡ 0 → eqb q p.0 ≡ false
not_first q p none = grind (arith, nat_tests)

is_first : (q : ℕ) (p : Pair) → eqb q p.0 ≡ true → 0 < pair_names q p
is_first q p is = grind (arith, nat_tests)

apart : (q : ℕ) (ps : List Pair) → pairs_name q ps ≡ 0 → AllByRecursion (λ y. eqb q y ≡ false) (map (λ (p : Pair). p.0) ps)
apart q [] none = tt
apart q (p ∷ ps) none =
    let sum = sum_by-cons (pair_names q) p ps in (not_first q p (omega (arith, sum, none)), apart q ps (omega (arith, sum, none)))

distinct : (ps : List Pair) → ((b : ℕ) → pairs_name b ps ≤ 1) → IsDistinct eqb (map (λ (p : Pair). p.0) ps)
unfolding IsDistinct
distinct [] once = tt
distinct (p ∷ ps) once =
    IsDistinct-cons eqb p.0 (map (λ (x : Pair). x.0) ps)
    (apart p.0 ps (omega (arith, sum_by-cons (pair_names p.0) p ps, names_first p, once p.0)))
    (distinct ps (λ b. omega (arith, sum_by-cons (pair_names b) p ps, once b)))

named : (q : ℕ) (ps : List Pair) → list_any (eqb q) (map (λ (p : Pair). p.0) ps) ≡ true → 0 < pairs_name q ps
named q [] some = absurd (both_ways false refl some)
named q (p ∷ ps) some =
    let sum = sum_by-cons (pair_names q) p ps in
    elim (or_cases (eqb q p.0) (list_any (eqb q) (map (λ (x : Pair). x.0) ps)) some) [
      | inl here ↦ omega (arith, sum, is_first q p here)
      | inr later ↦ omega (arith, sum, named q ps later)
    ]

fresh_few : (count : ℕ) (ps : List Pair) → AreFresh count ps → length ps ≤ count
fresh_few count ps fresh =
    let few = length-le_from_distinct_below (map (λ (p : Pair). p.0) ps) count (distinct ps fresh.once)
    (λ q some. fresh.within q (named q ps some)) in
    omega (arith, few, length-map ps (λ (p : Pair). p.0))

-- ---- a front

module _ (step : Pair → Option Pair) (count : ℕ) where
  follow_by : (fresh : Bool) (p : Pair) (ps : List Pair) → Follow step (step p) ps → Follow step (Some p) (if fresh then p ∷ ps else [])
  follow_by true p ps rest = (refl, rest)
  follow_by false p ps rest = tt

  follow_along : (before : List Pair) (n : ℕ) (from : Option Pair) → Follow step from (pairs_along step count before n from)
  follow_along before zero from = tt
  follow_along before (suc n) None = tt
  follow_along before (suc n) (Some p) =
      follow_by (is_fresh count before p) p (pairs_along step count (before ++ p ∷ []) n (step p)) (follow_along (before ++ p ∷ []) n (step p))

pub thread_is_front : (r : Reading) → IsFront r (thread_pairs r)
thread_is_front r =
    let fresh = along_fresh (next_pair r) r.count r.count (Some root) in
    record { follow = follow_along (next_pair r) r.count [] r.count (Some root); within = fresh.within; once = fresh.once }

-- ---- the longest one

names_second : (p : Pair) → 1 ≤ pair_names p.1 p
names_second p = grind (arith, nat_tests)

-- the last pair of such is fresh after the others
pub last_fresh : (count : ℕ) (before : List Pair) (p : Pair) → AreFresh count (before ++ p ∷ []) → IsFresh count before p
last_fresh count before p fresh =
    let first_more = pairs_more p.0 before p in
    let second_more = pairs_more p.1 before p in
    let first_there = names_first p in
    let second_there = names_second p in
    let first_once = fresh.once p.0 in
    let second_once = fresh.once p.1 in
    record {
      first = fresh.within p.0 (omega arith);
      second = fresh.within p.1 (omega arith);
      apart = grind (arith, nat_tests);
      first_new = omega arith;
      second_new = omega arith;
    }

module _ (step : Pair → Option Pair) (count : ℕ) where
  -- a pair more where the pairs along a step end
  ends_by : (fresh : Bool) (before : List Pair) (n : ℕ) (q p : Pair) → is_fresh count before q ≡ fresh
      → (Follow step (step q) (pairs_along step count (before ++ q ∷ []) n (step q) ++ p ∷ [])
      → AreFresh count ((before ++ q ∷ []) ++ (pairs_along step count (before ++ q ∷ []) n (step q) ++ p ∷ [])) → ⊥)
      → Follow step (Some q) ((if fresh then q ∷ pairs_along step count (before ++ q ∷ []) n (step q) else []) ++ p ∷ [])
      → AreFresh count (before ++ ((if fresh then q ∷ pairs_along step count (before ++ q ∷ []) n (step q) else []) ++ p ∷ [])) → ⊥
  ends_by true before n q p is rest follow fresh =
      rest follow.1
      (subst (AreFresh count) (sym (append_assoc before (q ∷ []) (pairs_along step count (before ++ q ∷ []) n (step q) ++ p ∷ []))) fresh)
  ends_by false before n q p is rest follow fresh =
      let same : q ≡ p = cc (follow.0) in
      both_ways (is_fresh count before q) is
      (ap (is_fresh count before) same ∙ is_fresh_is count before p (last_fresh count before p fresh))

  ends_along : (before : List Pair) (n : ℕ) (from : Option Pair) (p : Pair) → count ≤ length before + n
      → Follow step from (pairs_along step count before n from ++ p ∷ [])
      → AreFresh count (before ++ (pairs_along step count before n from ++ p ∷ [])) → ⊥
  ends_along before zero from p many follow fresh =
      absurd (omega (arith, many, fresh_few count (before ++ p ∷ []) fresh, length-append before (p ∷ [])))
  ends_along before (suc n) None p many follow fresh = absurd (cc (follow.0))
  ends_along before (suc n) (Some q) p many follow fresh =
      ends_by (is_fresh count before q) before n q p refl
      (ends_along (before ++ q ∷ []) n (step q) p (omega (arith, many, length-append before (q ∷ [])))) follow fresh

pub thread_is_ended : (r : Reading) → IsLongest r (thread_pairs r)
thread_is_ended r p front =
    ends_along (next_pair r) r.count [] r.count (Some root) p (omega arith) front.follow (record { within = front.within; once = front.once })

-- a thread is what is found along it
pub thread_found : (r : Reading) (ps : List Pair) → IsThread r ps → ps ≡ thread_pairs r
thread_found r ps thread = thread_is_longest r (thread_pairs r) ps (thread_is_front r) (thread_is_ended r) thread
