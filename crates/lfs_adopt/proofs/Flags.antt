-- Flags of the blocks of pairs, set one after another.
use Rattle.std.proofs.Common.{◌≡◌, ◌≢◌, ℕ, zero, suc, ◌+◌, ◌<◌, ◌≤◌, Bool, true, false, List, [], ◌∷◌, ◌++◌, length, take, get_or, set}
use Rattle.std.proofs.Common.{replicate, refl, ap, sym, ◌∙◌, subst, arith}
use Rattle.std.specs.Prelude.{nat_eq, slice_index_or}
use Rattle.std.proofs.lemmas.Bool.Decides.{nat_tests}
use Rattle.std.proofs.lemmas.List.{get_or-set_other, get_or-set_same, length-set, take_more}
use Rattle.std.proofs.lemmas.List.Sums.{sum_by-take-le}
use Rattle.lfs_meta.specs.Body.{Pair}
use Rattle.lfs_fs.specs.Front.{pair_names, pairs_name}
use Rattle.lfs_fs.specs.Reading.{Reading}
use Rattle.lfs_fs.proofs.ThreadReadLemmas.{pairs_more}
use Rattle.lfs_lower.proofs.LongestFronts.{names_first}
use Rattle.lfs_settle.specs.InStep.{thread_pairs}
use Rattle.lfs_settle.proofs.ThreadPairs.{thread_is_front}
use Rattle.lfs_settle.proofs.WholeThread.{names_second}
use Rattle.lfs_adopt.specs.Rewritten.{AreFlagged}

none_set : (count b : ℕ) → slice_index_or (replicate count false) b false ≡ false
none_set zero b = refl
none_set (suc count) zero = refl
none_set (suc count) (suc b) = none_set count b

-- none so far
pub flags_begin : (flags : List Bool) → flags ≡ replicate (length flags) false → AreFlagged (length flags) [] flags
flags_begin flags none = record {
  len = refl;
  named = λ b some. absurd (omega (arith, some));
  unnamed = λ b is. ap (λ (u : List Bool). slice_index_or u b false) none ∙ none_set (length flags) b;
}

-- ---- one flag

one_set : (flags : List Bool) (n b : ℕ) → n < length flags → b ≡ n → slice_index_or (set flags n true) b false ≡ true
one_set flags n b within is = ap (λ (k : ℕ). slice_index_or (set flags n true) k false) is ∙ get_or-set_same flags n true false within

other_stays : (flags : List Bool) (n b : ℕ) → b ≢ n → slice_index_or (set flags n true) b false ≡ slice_index_or flags b false
other_stays flags n b other = get_or-set_other flags n b true false other

-- a flag that is set stays so
set_stays : (flags : List Bool) (n b : ℕ) → n < length flags → slice_index_or flags b false ≡ true
    → slice_index_or (set flags n true) b false ≡ true
set_stays flags n b within is = by (nat_eq b n) refl
  where
    by : (t : Bool) → nat_eq b n ≡ t → slice_index_or (set flags n true) b false ≡ true
    by true same = one_set flags n b within (grind (arith, nat_tests))
    by false other = other_stays flags n b (grind (arith, nat_tests)) ∙ is

-- ---- one pair more

module _ (flags : List Bool) (before : List Pair) (p : Pair) (old : AreFlagged (length flags) before flags) (first : p.0 < length flags)
    (second : p.1 < length flags) where
  abbrev flagged : List Bool
  flagged = set (set flags p.0 true) p.1 true

  len_once : length (set flags p.0 true) ≡ length flags
  len_once = length-set flags p.0 true

  named_now : (b : ℕ) (t u : Bool) → nat_eq b p.0 ≡ t → nat_eq b p.1 ≡ u → 0 < pairs_name b before + pair_names b p
      → slice_index_or flagged b false ≡ true
  named_now b true u is other some =
      set_stays (set flags p.0 true) p.1 b (omega (arith, len_once, second)) (one_set flags p.0 b first (grind (arith, nat_tests)))
  named_now b false true apart is some =
      one_set (set flags p.0 true) p.1 b (omega (arith, len_once, second)) (grind (arith, nat_tests))
  named_now b false false apart apart_too some =
      let none : pair_names b p ≡ 0 = grind (arith, nat_tests) in
      set_stays (set flags p.0 true) p.1 b (omega (arith, len_once, second))
      (set_stays flags p.0 b first (old.named b (omega (arith, some, none))))

  unnamed_now : (b : ℕ) → pairs_name b before + pair_names b p ≡ 0 → slice_index_or flagged b false ≡ false
  unnamed_now b none =
      let no_name : pair_names b p ≡ 0 = omega (arith, none) in
      let first_apart : b ≢ p.0 = grind (arith, nat_tests, no_name) in
      let second_apart : b ≢ p.1 = grind (arith, nat_tests, no_name) in
      other_stays (set flags p.0 true) p.1 b second_apart ∙ other_stays flags p.0 b first_apart ∙ old.unnamed b (omega (arith, none))

  flagged_more : AreFlagged (length flags) (before ++ p ∷ []) flagged
  flagged_more = record {
    len = length-set (set flags p.0 true) p.1 true ∙ len_once;
    named = λ b some. named_now b (nat_eq b p.0) (nat_eq b p.1) refl refl (omega (arith, some, pairs_more b before p));
    unnamed = λ b none. unnamed_now b (omega (arith, none, pairs_more b before p));
  }

-- the next of pairs, whose blocks all have a flag
module _ (count : ℕ) (flags : List Bool) (all : List Pair) (i : ℕ) (o : Pair) (below : i < length all)
    (within : (b : ℕ) → 0 < pairs_name b all → b < count) (old : AreFlagged count (take i all) flags) where
  one_more : take (i + 1) all ≡ take i all ++ get_or all i o ∷ []
  one_more = take_more all i o below

  few : (b : ℕ) → pairs_name b (take i all ++ get_or all i o ∷ []) ≤ pairs_name b all
  few b = omega (arith, sum_by-take-le (pair_names b) all (i + 1), ap (pairs_name b) one_more)

  named_in : (b : ℕ) → 1 ≤ pair_names b (get_or all i o) → b < length flags
  named_in b some =
      let here : b < count = within b (omega (arith, some, few b, pairs_more b (take i all) (get_or all i o))) in
      omega (arith, here, old.len)

  pub first_flag : (get_or all i o).0 < length flags
  first_flag = named_in (get_or all i o).0 (names_first (get_or all i o))

  pub second_flag : (get_or all i o).1 < length (set flags (get_or all i o).0 true)
  second_flag =
      omega (arith, named_in (get_or all i o).1 (names_second (get_or all i o)), length-set flags (get_or all i o).0 true)

  pub next_flags : AreFlagged count (take (i + 1) all) (set (set flags (get_or all i o).0 true) (get_or all i o).1 true)
  next_flags =
      let p : Pair = get_or all i o in
      let more = flagged_more flags (take i all) p (subst (λ (n : ℕ). AreFlagged n (take i all) flags) (sym old.len) old) first_flag
      (named_in p.1 (names_second p)) in
      subst (λ (ps : List Pair). AreFlagged count ps (set (set flags p.0 true) p.1 true)) (sym one_more)
      (subst (λ (n : ℕ). AreFlagged n (take i all ++ p ∷ []) (set (set flags p.0 true) p.1 true)) old.len more)

-- the blocks of the thread's pairs are of the disk
pub thread_within : (r : Reading) (pairs : List Pair) (n : ℕ) → pairs ≡ thread_pairs r → n ≡ r.count → (b : ℕ) → 0 < pairs_name b pairs
    → b < n
thread_within r pairs n are count b some =
    let below : b < r.count = (thread_is_front r).within b (subst (λ (ps : List Pair). 0 < pairs_name b ps) are some) in
    omega (arith, below, count)
