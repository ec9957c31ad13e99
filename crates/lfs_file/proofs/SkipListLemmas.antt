-- What the tests of a chain say.
use Rattle.std.proofs.Common.{◌≡◌, ◌≢◌, ℕ, zero, suc, ◌+◌, ◌-◌, ◌^◌, ◌<◌, eqb, ltb, Bool, true, false, not, ◌&&◌, ◌||◌, cond, List, length}
use Rattle.std.proofs.Common.{get_or, refl, sym, ap, ◌∙◌, inl, inr, arith, zero-add, slice_index}
use Rattle.std.specs.List.{list_all, range_with_len}
use Rattle.std.proofs.lemmas.List.Sums.{AllPass-from_list_all, list_all-from_AllPass}
use Rattle.std.proofs.lemmas.List.FromFn.{length-range_with_len, get_or-range_with_len}
use Rattle.std.proofs.lemmas.Bool.{and_parts, and_from, or_cases, or_left, or_right, lt-ltb, eq-eqb, eqb-true, ne_eqb, not_from_true}
use Rattle.std.proofs.lemmas.Bool.{not_from_false, cases_Bool, cases_eq, false≢true}
use Rattle.std.proofs.lemmas.Bool.Decides.{Decides-ltb}
use Rattle.lfs_block.specs.Disk.{Disk, block_of}
use Rattle.lfs_file.specs.Capacity.{pointers}
use Rattle.lfs_file.specs.Pointer.{pointer}
use Rattle.lfs_file.specs.SkipList.{points_back, is_linked_at, is_linked}

-- a test of each number below n
pub range_passes : (p : ℕ → Bool) (n k : ℕ) → list_all p (range_with_len 0 n) ≡ true → k < n → p k ≡ true
range_passes p n k all lt =
    let within : k < length (range_with_len 0 n) = omega (arith, length-range_with_len 0 n) in
    let here : p (get_or (range_with_len 0 n) k 0) ≡ true = AllPass-from_list_all p (range_with_len 0 n) all k 0 within in
    ap p (sym (get_or-range_with_len 0 n k 0 lt ∙ zero-add k)) ∙ here

pub passes_range : (p : ℕ → Bool) (n : ℕ) → ((k : ℕ) → k < n → p k ≡ true) → list_all p (range_with_len 0 n) ≡ true
passes_range p n each =
    list_all-from_AllPass p (range_with_len 0 n)
    (λ k e within. let lt : k < n = omega (arith, within, length-range_with_len 0 n) in
    ap p (get_or-range_with_len 0 n k e lt ∙ zero-add k) ∙ each k lt)

pub range_fails : (p : ℕ → Bool) (n k : ℕ) → k < n → p k ≡ false → list_all p (range_with_len 0 n) ≡ false
range_fails p n k lt fails =
    elim (cases_Bool (list_all p (range_with_len 0 n))) [
      | inl all ↦ absurd (false≢true (sym fails ∙ range_passes p n k all lt))
      | inr some ↦ some
    ]

-- block n is on the disk, is not block 0 where n is later, and points back
pub record IsLinkedAt (d : Disk) (blocks : List ℕ) (n : ℕ) : Type 0 where
  pub below : slice_index blocks n < d.count
  pub first : 0 < n → slice_index blocks n ≢ slice_index blocks 0
  pub back : (i : ℕ) → i < pointers n → pointer (block_of d (slice_index blocks n)) i ≡ slice_index blocks (n - 2 ^ i)

pub points-true : (d : Disk) (blocks : List ℕ) (n i : ℕ) → points_back d blocks n ≡ true → i < pointers n
    → pointer (block_of d (slice_index blocks n)) i ≡ slice_index blocks (n - 2 ^ i)
unfolding points_back
points-true d blocks n i is lt = eqb-true _ _ (range_passes (λ i. eqb (pointer (block_of d (slice_index blocks n)) i)
    (slice_index blocks (n - 2 ^ i))) (pointers n) i is lt)

pub points-from : (d : Disk) (blocks : List ℕ) (n : ℕ)
    → ((i : ℕ) → i < pointers n → pointer (block_of d (slice_index blocks n)) i ≡ slice_index blocks (n - 2 ^ i))
    → points_back d blocks n ≡ true
unfolding points_back
points-from d blocks n each = passes_range (λ i. eqb (pointer (block_of d (slice_index blocks n)) i) (slice_index blocks (n - 2 ^ i)))
    (pointers n) (λ i lt. eq-eqb _ _ (each i lt))

pub points-false : (d : Disk) (blocks : List ℕ) (n i : ℕ) → i < pointers n
    → (pointer (block_of d (slice_index blocks n)) i ≡ slice_index blocks (n - 2 ^ i) → ⊥) → points_back d blocks n ≡ false
unfolding points_back
points-false d blocks n i lt ne = range_fails (λ i. eqb (pointer (block_of d (slice_index blocks n)) i) (slice_index blocks (n - 2 ^ i)))
    (pointers n) i lt (ne_eqb _ _ ne)

differs : (n b first : ℕ) → (eqb n 0 || not (eqb b first)) ≡ true → 0 < n → b ≢ first
differs n b first is some same =
    elim (or_cases (eqb n 0) (not (eqb b first)) is) [
      | inl none ↦ absurd (omega (arith, eqb-true n 0 none, some))
      | inr apart ↦ false≢true (sym (not_from_true _ (eq-eqb b first same)) ∙ apart)
    ]

differs_from : (n b first : ℕ) → (0 < n → b ≢ first) → (eqb n 0 || not (eqb b first)) ≡ true
differs_from n b first apart =
    elim (cases_eq n 0) [
      | inl none ↦ or_left _ _ (eq-eqb n 0 none)
      | inr some ↦ let later : 0 < n = omega (arith, some) in or_right (eqb n 0) _ (not_from_false _ (ne_eqb b first (apart later)))
    ]

pub linked_at-true : (d : Disk) (blocks : List ℕ) (n : ℕ) → is_linked_at d blocks n ≡ true → IsLinkedAt d blocks n
unfolding is_linked_at
linked_at-true d blocks n is =
    let parts = and_parts (ltb (slice_index blocks n) d.count && (eqb n 0 || not (eqb (slice_index blocks n) (slice_index blocks 0))))
    (points_back d blocks n) is in
    let fronts = and_parts (ltb (slice_index blocks n) d.count) (eqb n 0
    || not (eqb (slice_index blocks n) (slice_index blocks 0))) parts.0 in
    record {
      below = (Decides-ltb (slice_index blocks n) d.count).0 fronts.0;
      first = differs n (slice_index blocks n) (slice_index blocks 0) fronts.1;
      back = λ i lt. points-true d blocks n i parts.1 lt;
    }

pub linked_at-from : (d : Disk) (blocks : List ℕ) (n : ℕ) → IsLinkedAt d blocks n → is_linked_at d blocks n ≡ true
unfolding is_linked_at
linked_at-from d blocks n is =
    and_from (ltb (slice_index blocks n) d.count && (eqb n 0 || not (eqb (slice_index blocks n) (slice_index blocks 0))))
    (points_back d blocks n)
    (and_from (ltb (slice_index blocks n) d.count) _ (lt-ltb _ _ is.below)
    (differs_from n (slice_index blocks n) (slice_index blocks 0) is.first))
    (points-from d blocks n is.back)

pub linked-true : (d : Disk) (blocks : List ℕ) (n : ℕ) → is_linked d blocks ≡ true → n < length blocks → IsLinkedAt d blocks n
unfolding is_linked
linked-true d blocks n is lt = linked_at-true d blocks n (range_passes (is_linked_at d blocks) (length blocks) n is lt)

pub linked-from : (d : Disk) (blocks : List ℕ) → ((n : ℕ) → n < length blocks → is_linked_at d blocks n ≡ true) → is_linked d blocks ≡ true
unfolding is_linked
linked-from d blocks each = passes_range (is_linked_at d blocks) (length blocks) each

pub linked-false : (d : Disk) (blocks : List ℕ) (n : ℕ) → n < length blocks → is_linked_at d blocks n ≡ false → is_linked d blocks ≡ false
unfolding is_linked
linked-false d blocks n lt fails = range_fails (is_linked_at d blocks) (length blocks) n lt fails

some_at : (b : Bool) (n t : ℕ) → b ≡ eqb n 0 → 0 < n → 0 < cond b 0 (t + 1)
some_at true n t is some = absurd (omega (arith, eqb-true n 0 (sym is), some))
some_at false n t is some = omega arith

-- a later block has a first pointer
pub pointers_some : (n : ℕ) → 0 < n → 0 < pointers n
pointers_some n some = some_at (eqb n 0) n _ refl some

-- the first pointer of a later block names the block before it
pub before : (d : Disk) (blocks : List ℕ) (n : ℕ) → IsLinkedAt d blocks (suc n)
    → pointer (block_of d (slice_index blocks (suc n))) 0 ≡ slice_index blocks n
before d blocks n is =
    let one : suc n - 2 ^ 0 ≡ n = omega arith in
    is.back 0 (pointers_some (suc n) (omega arith)) ∙ ap (slice_index blocks) one

-- two equal blocks have equal blocks before them, down to block 0
pub apart : (d : Disk) (blocks : List ℕ) → ((n : ℕ) → n < length blocks → IsLinkedAt d blocks n) → (i j : ℕ) → i < j → j < length blocks
    → slice_index blocks i ≢ slice_index blocks j
apart d blocks is zero j lt within same = (is j within).first lt (sym same)
apart d blocks is (suc i) zero lt within same = absurd (omega (arith, lt))
apart d blocks is (suc i) (suc j) lt within same =
    apart d blocks is i j (omega (arith, lt)) (omega (arith, within))
    (sym (before d blocks i (is (suc i) (omega (arith, lt, within)))) ∙ ap (λ b. pointer (block_of d b) 0) same
    ∙ before d blocks j (is (suc j) within))

-- a block with a pointer is not block 0
pub later_at : (n i : ℕ) → i < pointers n → 0 < n
later_at zero i lt = absurd (omega (arith, lt))
later_at (suc n) i lt = omega arith
