-- An image without a cause has a thread.
use Rattle.std.proofs.Common.{◌≡◌, ◌⊎◌, ℕ, ◌+◌, ◌*◌, ◌<◌, ◌≤◌, true, false, List, [], ◌∷◌, ◌++◌, length, length-append, Option, Some, None}
use Rattle.std.proofs.Common.{zero, suc, refl, ap, sym, ◌∙◌, arith, eqb}
use Rattle.std.specs.Prelude.{◌==◌, Contains, IsSome, cond, flat_map, option_to_list, ◌||◌}
use Rattle.std.specs.List.{AllByRecursion, IsDistinct, list_any}
use Rattle.std.proofs.lemmas.Bool.{cases_lt}
use Rattle.std.proofs.lemmas.Bool.Decides.{nat_tests, eqb_tells}
use Rattle.std.proofs.lemmas.List.Elements.{Contains-get_or}
use Rattle.std.proofs.lemmas.List.Sums.{sum_by-cons, sum_by-append}
use Rattle.std.proofs.lemmas.Map.Keys.{IsDistinct-cons}
use Rattle.std.proofs.lemmas.Map.Steps.{length-le_from_distinct_below}
use mathlib.Core.Logic.{inl, inr}
use Rattle.lfs_block.specs.Disk.{Disk}
use Rattle.lfs_block.specs.declared.mount_fault.MountFault.{MountFault}
use Rattle.lfs_block.specs.declared.mount_fault.MountFault.TheVariants as fault
use Rattle.lfs_meta.specs.Body.{Pair}
use Rattle.lfs_meta.specs.Cause.{PairCause}
use Rattle.lfs_meta.specs.HeldLaws.{PairsWithoutAPartHaveACause}
use Rattle.lfs_meta.specs.LiveBlock.{stored_part_of}
use Rattle.lfs_meta.specs.Part.{StoredPart}
use Rattle.lfs_fs.specs.Pair.{root}
use Rattle.lfs_fs.specs.Uses.{times}
use Rattle.lfs_fs.specs.Reading.{reading_of}
use Rattle.lfs_fs.specs.Front.{next_pair, next_after, pair_names, pairs_name, IsFront, IsThread}
use Rattle.lfs_fs.specs.FrontCause.{Unread}
use Rattle.lfs_fs.specs.Cause.{HasNoCause}
use Rattle.lfs_fs.proofs.ThreadReadLemmas.{follow_more, pairs_more, pairs_in_uses, no_header}

-- ---- each pair of a front holds a part

unread_at : (d : Disk) (fault : MountFault) (ps : List Pair) (p : Pair) → IsFront (reading_of d) ps → Contains ps p → PairCause fault d p
    → Unread d fault
unread_at d fault ps p front there cause = record { front = ps; is_front = front; pair = p; there = there; cause = cause }

no_pair_cause : (d : Disk) (f : MountFault) (ps : List Pair) (p : Pair) → HasNoCause d → IsFront (reading_of d) ps → Contains ps p
    → PairCause f d p → ⊥
no_pair_cause d fault.NoValidCommit ps p none front there cause = none fault.NoValidCommit tt
    (unread_at d fault.NoValidCommit ps p front there cause)
no_pair_cause d fault.UnknownTag ps p none front there cause = none fault.UnknownTag tt
    (unread_at d fault.UnknownTag ps p front there cause)
no_pair_cause d fault.BadTag ps p none front there cause = none fault.BadTag tt (unread_at d fault.BadTag ps p front there cause)
no_pair_cause d fault.IncompleteEntry ps p none front there cause = none fault.IncompleteEntry tt
    (unread_at d fault.IncompleteEntry ps p front there cause)
no_pair_cause d fault.BadName ps p none front there cause = none fault.BadName tt (unread_at d fault.BadName ps p front there cause)
no_pair_cause d _ ps p none front there cause = cause

part_by : (d : Disk) (ps : List Pair) (p : Pair) (o : Option StoredPart) → PairsWithoutAPartHaveACause → HasNoCause d
    → IsFront (reading_of d) ps → Contains ps p → stored_part_of d p ≡ o → IsSome o
part_by d ps p None law none front there is = let cause = law d p is in absurd (no_pair_cause d cause.0 ps p none front there cause.1)
part_by d ps p (Some s) law none front there is = refl

-- ---- a front goes on

one_of_two : (b : ℕ) (p : Pair) → 0 < pair_names b p → (b ≡ p.0) ⊎ (b ≡ p.1)
one_of_two b p some' = grind (arith, nat_tests)

named_within : (d : Disk) (ps : List Pair) (p : Pair) (b : ℕ) → HasNoCause d → IsFront (reading_of d) ps
    → next_after (reading_of d) ps ≡ Some p → (b ≡ p.0) ⊎ (b ≡ p.1) → b < d.count
named_within d ps p b none front is (inl first) =
    elim (cases_lt b d.count) [
      | inl below ↦ below
      | inr past ↦ absurd (none fault.BlockRange tt (inl (record {
        front = ps;
        is_front = front;
        pair = p;
        follows = is;
        past = inl (omega arith);
      })))
    ]
named_within d ps p b none front is (inr second) =
    elim (cases_lt b d.count) [
      | inl below ↦ below
      | inr past ↦ absurd (none fault.BlockRange tt (inl (record {
        front = ps;
        is_front = front;
        pair = p;
        follows = is;
        past = inr (omega arith);
      })))
    ]

within_next : (d : Disk) (ps : List Pair) (p : Pair) (b : ℕ) → HasNoCause d → IsFront (reading_of d) ps
    → next_after (reading_of d) ps ≡ Some p → 0 < pairs_name b (ps ++ p ∷ []) → b < d.count
within_next d ps p b none front is some' =
    elim (cases_lt 0 (pairs_name b ps)) [
      | inl here ↦ front.within b here
      | inr not ↦ named_within d ps p b none front is (one_of_two b p (omega (arith, pairs_more b ps p)))
    ]

once_next : (d : Disk) (ps : List Pair) (p : Pair) (b : ℕ) → HasNoCause d → IsFront (reading_of d) ps
    → next_after (reading_of d) ps ≡ Some p → pairs_name b (ps ++ p ∷ []) ≤ 1
once_next d ps p b none front is =
    let some' = pairs_in_uses (reading_of d) no_header b ps in
    let one : pairs_name b (option_to_list (next_after (reading_of d) ps)) ≡ pair_names b p =
    ap (λ (o : Option Pair). pairs_name b (option_to_list o)) is ∙ omega arith in
    elim (cases_lt 1 (pairs_name b (ps ++ p ∷ []))) [
      | inl twice ↦ absurd (none fault.BlockTwice tt (record {
        header = no_header;
        front = ps;
        is_front = front;
        twice = inl (b, omega (arith, pairs_more b ps p));
      }))
      | inr most ↦ most
    ]

front_next : (d : Disk) (ps : List Pair) (p : Pair) → HasNoCause d → IsFront (reading_of d) ps → next_after (reading_of d) ps ≡ Some p
    → IsFront (reading_of d) (ps ++ p ∷ [])
front_next d ps p none front is = record {
  follow = follow_more (next_pair (reading_of d)) (Some root) ps p front.follow is;
  within = λ b. within_next d ps p b none front is;
  once = λ b. once_next d ps p b none front is;
}

-- ---- a front is no longer than the disk

-- the blocks that pairs name
abbrev blocks_of : List Pair → List ℕ
blocks_of ps = flat_map (λ p. p.0 ∷ p.1 ∷ []) ps

times_of : (b : ℕ) (ps : List Pair) → times b (blocks_of ps) ≡ pairs_name b ps
times_of b [] = refl
times_of b (p ∷ ps) = omega (
  arith,
  times_of b ps,
  sum_by-append (λ (x : ℕ). cond {A = ℕ} (x == b) 1 0) (p.0 ∷ p.1 ∷ []) (blocks_of ps),
  sum_by-cons (pair_names b) p ps,
)

length_of : (ps : List Pair) → length (blocks_of ps) ≡ 2 * length ps
length_of [] = refl
length_of (p ∷ ps) = omega (arith, length_of ps)

none_equal : (x : ℕ) (xs : List ℕ) → times x xs ≡ 0 → AllByRecursion (λ y. eqb x y ≡ false) xs
none_equal x [] none = tt
none_equal x (y ∷ xs) none =
    let more = sum_by-cons (λ (z : ℕ). cond {A = ℕ} (z == x) 1 0) y xs in
    (grind (arith, nat_tests), none_equal x xs (omega arith))

one_time : (b x : ℕ) → b ≡ x → 1 ≤ times b (x ∷ [])
one_time b x same = grind (arith, nat_tests)

times_first : (b x : ℕ) (xs : List ℕ) → times b (x ∷ xs) ≡ times b (x ∷ []) + times b xs
times_first b x xs = sum_by-append (λ (z : ℕ). cond {A = ℕ} (z == b) 1 0) (x ∷ []) xs

distinct : (xs : List ℕ) → ((b : ℕ) → times b xs ≤ 1) → IsDistinct eqb xs
unfolding IsDistinct
distinct [] once = tt
distinct (x ∷ xs) once =
    IsDistinct-cons eqb x xs (none_equal x xs (omega (arith, once x, times_first x x xs, one_time x x refl)))
    (distinct xs (λ b. omega (arith, once b, times_first b x xs)))

some_time : (b : ℕ) (xs : List ℕ) → list_any (eqb b) xs ≡ true → 0 < times b xs
some_time b [] any = cc
some_time b (x ∷ xs) any = elim (eqb_tells b x) [
  | inl here ↦ omega (arith, times_first b x xs, one_time b x here.1)
  | inr other ↦
      let rest : list_any (eqb b) xs ≡ true = sym (ap (λ t. t || list_any (eqb b) xs) other.0) ∙ any in
      omega (arith, some_time b xs rest, times_first b x xs)
]

few : (d : Disk) (ps : List Pair) → IsFront (reading_of d) ps → 2 * length ps ≤ d.count
few d ps front =
    let most : length (blocks_of ps) ≤ d.count = length-le_from_distinct_below (blocks_of ps) d.count
    (distinct (blocks_of ps) (λ b. omega (arith, times_of b ps, front.once b)))
    (λ b any. front.within b (omega (arith, times_of b ps, some_time b (blocks_of ps) any))) in
    omega (arith, length_of ps)

-- ---- the thread

abbrev pub HasThread : Disk → Type 0
HasThread d = (ps : List Pair) × IsThread (reading_of d) ps

-- a front is the thread, or goes on
ends_or_on : (d : Disk) (ps : List Pair) (o : Option Pair) → PairsWithoutAPartHaveACause → HasNoCause d → IsFront (reading_of d) ps
    → next_after (reading_of d) ps ≡ o
    → ((p : Pair) → IsFront (reading_of d) (ps ++ p ∷ []) → HasThread d) → HasThread d
ends_or_on d ps None law none front is on = (
  ps,
  record {
    front = front;
    parts = λ i dflt within. part_by d ps _ (stored_part_of d _) law none front (Contains-get_or ps i dflt within) refl;
    ends = is;
  },
)
ends_or_on d ps (Some p) law none front is on = on p (front_next d ps p none front is)

find_thread : (n : ℕ) (d : Disk) (ps : List Pair) → PairsWithoutAPartHaveACause → HasNoCause d → IsFront (reading_of d) ps
    → d.count ≤ 2 * length ps + n → HasThread d
find_thread zero d ps law none front room =
    ends_or_on d ps (next_after (reading_of d) ps) law none front refl
    (λ p more. absurd (omega (arith, few d (ps ++ p ∷ []) more, length-append ps (p ∷ []))))
find_thread (suc n) d ps law none front room =
    ends_or_on d ps (next_after (reading_of d) ps) law none front refl
    (λ p more. find_thread n d (ps ++ p ∷ []) law none more (omega (arith, length-append ps (p ∷ []))))

pub thread_there : (d : Disk) → PairsWithoutAPartHaveACause → HasNoCause d → HasThread d
thread_there d law none = find_thread d.count d [] law none (record {
  follow = tt;
  within = λ b some'. absurd (omega arith);
  once = λ b. omega arith;
}) (omega arith)
