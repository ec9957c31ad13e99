-- The pairs of superblocks are a front, and depend on their own parts alone.
use Rattle.std.proofs.Common.{◌≡◌, ℕ, zero, suc, ◌+◌, ◌≤◌, ◌<◌, Bool, true, false, List, [], ◌∷◌, ◌++◌, Option, Some, None, refl, ap, sym, ◌∙◌}
use Rattle.std.proofs.Common.{subst, arith, append-nil, append_assoc, ◌⊎◌, inl, inr}
use Rattle.std.specs.Prelude.{Contains, if◌then◌else◌, option_and_then}
use Rattle.std.proofs.lemmas.Bool.Decides.{nat_tests}
use Rattle.lfs_meta.specs.declared.tail.Tail.{Tail}
use Rattle.lfs_meta.specs.declared.tail.Tail.TheVariants.{End, Hard, Soft}
use Rattle.lfs_meta.specs.Body.{Pair}
use Rattle.lfs_meta.specs.Entry.{StoredEntry}
use Rattle.lfs_meta.specs.Part.{StoredPart}
use Rattle.lfs_fs.specs.Pair.{root}
use Rattle.lfs_fs.specs.Reading.{Reading}
use Rattle.lfs_fs.specs.Front.{Follow, IsFront, next_pair, pair_names, pairs_name, tail_of}
use Rattle.lfs_fs.specs.Thread.{next}
use Rattle.lfs_fs.proofs.ContainsLemmas.{contains_first, contains_later}
use Rattle.lfs_fs.proofs.ThreadReadLemmas.{pairs_more}
use Rattle.lfs_lower.proofs.LongestFronts.{AgreeAt}
use Rattle.lfs_lower.specs.OneSuperblock.{behind_superblock, hard_next, is_fresh, lead, lead_by, pairs_along, superblock_pairs}

-- ---- each step is one of the thread

next_by_tail : (tail : Tail) (q : Pair) → hard_next tail ≡ Some q → next tail ≡ Some q
next_by_tail End q is = cc
next_by_tail (Soft first second) q is = cc
next_by_tail (Hard first second) q is = is

next_by_lead : (tail : Tail) (es : List StoredEntry) (q : Pair) → lead_by tail es ≡ Some q → next tail ≡ Some q
next_by_lead tail [] q is = next_by_tail tail q is
next_by_lead tail (e ∷ es) q is = cc

next_by_part : (o : Option StoredPart) (q : Pair) → option_and_then (λ s. lead_by s.tail (behind_superblock s.entries)) o ≡ Some q
    → tail_of o ≡ Some q
next_by_part None q is = cc
next_by_part (Some s) q is = next_by_lead s.tail (behind_superblock s.entries) q is

-- where a pair leads on, the thread goes there
pub leads_along : (r : Reading) (p q : Pair) → lead r p ≡ Some q → next_pair r p ≡ Some q
leads_along r p q is = next_by_part (r.part p) q is

module _ (step walk : Pair → Option Pair) (sure : (p q : Pair) → step p ≡ Some q → walk p ≡ Some q) (count : ℕ) where
  follow_if : (fresh : Bool) (to : Option Pair) (p : Pair) (ps : List Pair) → to ≡ Some p → Follow walk (walk p) ps
      → Follow walk to (if fresh then p ∷ ps else [])
  follow_if true to p ps is rest = (is, rest)
  follow_if false to p ps is rest = tt

  along_follow : (before : List Pair) (n : ℕ) (from to : Option Pair) → ((q : Pair) → from ≡ Some q → to ≡ Some q)
      → Follow walk to (pairs_along step count before n from)
  along_follow before zero from to is = tt
  along_follow before (suc n) None to is = tt
  along_follow before (suc n) (Some p) to is =
      follow_if (is_fresh count before p) to p (pairs_along step count (before ++ p ∷ []) n (step p)) (is p refl)
      (along_follow (before ++ p ∷ []) n (step p) (walk p) (sure p))

-- ---- no block is named twice

-- pairs name blocks of the disk, none twice
record AreFresh (count : ℕ) (ps : List Pair) : Type 0 where
  within : (b : ℕ) → 0 < pairs_name b ps → b < count
  once : (b : ℕ) → pairs_name b ps ≤ 1

fresh_within : (count : ℕ) (before : List Pair) (p : Pair) → is_fresh count before p ≡ true → (b : ℕ) → 0 < pair_names b p → b < count
fresh_within count before p fresh b some = grind (arith, nat_tests)

fresh_once : (count : ℕ) (before : List Pair) (p : Pair) → is_fresh count before p ≡ true → (b : ℕ) → pairs_name b before ≤ 1
    → pairs_name b before + pair_names b p ≤ 1
fresh_once count before p fresh b once = grind (arith, nat_tests)

either : (m n : ℕ) → 0 < m + n → (0 < m) ⊎ (0 < n)
either zero n some = inr (omega arith)
either (suc m) n some = inl (omega arith)

fresh_more : (count : ℕ) (before : List Pair) (p : Pair) → AreFresh count before → is_fresh count before p ≡ true
    → AreFresh count (before ++ p ∷ [])
fresh_more count before p h fresh = record {
  within = λ b some. elim (either (pairs_name b before) (pair_names b p) (omega (arith, some, pairs_more b before p))) [
    | inl earlier ↦ h.within b earlier
    | inr here ↦ fresh_within count before p fresh b here
  ];
  once = λ b. omega (arith, pairs_more b before p, fresh_once count before p fresh b (h.once b));
}

module _ (step : Pair → Option Pair) (count : ℕ) where
  fresh_if : (fresh : Bool) (before : List Pair) (p : Pair) (ps : List Pair) → is_fresh count before p ≡ fresh → AreFresh count before
      → (AreFresh count (before ++ p ∷ []) → AreFresh count ((before ++ p ∷ []) ++ ps))
      → AreFresh count (before ++ (if fresh then p ∷ ps else []))
  fresh_if true before p ps is h rest = subst (AreFresh count) (append_assoc before (p ∷ []) ps)
      (rest (fresh_more count before p h is))
  fresh_if false before p ps is h rest = subst (AreFresh count) (sym (append-nil before)) h

  along_fresh : (before : List Pair) (n : ℕ) (from : Option Pair) → AreFresh count before
      → AreFresh count (before ++ pairs_along step count before n from)
  along_fresh before zero from h = subst (AreFresh count) (sym (append-nil before)) h
  along_fresh before (suc n) None h = subst (AreFresh count) (sym (append-nil before)) h
  along_fresh before (suc n) (Some p) h =
      fresh_if (is_fresh count before p) before p (pairs_along step count (before ++ p ∷ []) n (step p)) refl h
      (along_fresh (before ++ p ∷ []) n (step p))

none_fresh : (count : ℕ) → AreFresh count []
none_fresh count = record { within = λ b some. absurd (omega arith); once = λ b. omega arith }

pub superblock_pairs_are_front : (r : Reading) → IsFront r (superblock_pairs r)
superblock_pairs_are_front r =
    let fresh : AreFresh r.count (superblock_pairs r) = along_fresh (lead r) r.count [] r.count (Some root) (none_fresh r.count) in
    record {
      follow = along_follow (lead r) (next_pair r) (leads_along r) r.count [] r.count (Some root) (Some root) (λ q is. is);
      within = fresh.within;
      once = fresh.once;
    }

-- ---- they depend on their own parts alone

-- steps that agree at the pairs of one walk make one walk
module _ (step walk : Pair → Option Pair) (count : ℕ) where
  alike_if : (fresh : Bool) (before : List Pair) (n : ℕ) (p : Pair)
      → ((x : Pair) → Contains (if fresh then p ∷ pairs_along step count before n (step p) else []) x → walk x ≡ step x)
      → (((x : Pair) → Contains (pairs_along step count before n (step p)) x → walk x ≡ step x)
      → pairs_along walk count before n (step p) ≡ pairs_along step count before n (step p))
      → (if fresh then p ∷ pairs_along walk count before n (walk p) else [])
      ≡ (if fresh then p ∷ pairs_along step count before n (step p) else [])
  alike_if true before n p same rest =
      ap (λ (x : Option Pair). p ∷ pairs_along walk count before n x) (same p (contains_first p _))
      ∙ ap (λ (ps : List Pair). p ∷ ps) (rest (λ x there. same x (contains_later p _ x there)))
  alike_if false before n p same rest = refl

  pub along_alike : (before : List Pair) (n : ℕ) (from : Option Pair)
      → ((p : Pair) → Contains (pairs_along step count before n from) p → walk p ≡ step p)
      → pairs_along walk count before n from ≡ pairs_along step count before n from
  along_alike before zero from same = refl
  along_alike before (suc n) None same = refl
  along_alike before (suc n) (Some p) same =
      alike_if (is_fresh count before p) (before ++ p ∷ []) n p same (along_alike (before ++ p ∷ []) n (step p))

-- readings of one count that agree on these pairs of one of them have the same
pub superblock_pairs_alike : (r q : Reading) → q.count ≡ r.count → AgreeAt r q (superblock_pairs r) → superblock_pairs q ≡ superblock_pairs r
superblock_pairs_alike r q count agree =
    ap (λ (n : ℕ). pairs_along (lead q) n [] n (Some root)) count
    ∙ along_alike (lead r) (lead q) r.count [] r.count (Some root)
    (λ p there. ap (option_and_then (λ s. lead_by s.tail (behind_superblock s.entries))) (agree p there))
