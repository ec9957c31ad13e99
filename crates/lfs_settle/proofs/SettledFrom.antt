-- Each settled part is one that was there, less entries.
use Rattle.std.proofs.Common.{◌≡◌, inl, inr, ℕ, zero, suc, ◌+◌, ◌≤◌, Bool, true, false, List, [], ◌∷◌, ◌++◌, length, map, refl, ap, sym, ◌∙◌, subst, arith}
use Rattle.std.specs.Prelude.{Contains, Some, ◌==◌, ◌&&◌, cond, nat_le, slice_get, if◌then◌else◌, replicate}
use Rattle.std.specs.List.{AllByRecursion, filter}
use Rattle.std.proofs.lemmas.Bool.Decides.{nat_tests}
use Rattle.std.proofs.lemmas.List.{map-append}
use Rattle.std.proofs.lemmas.List.Sums.{sum_by-append, sum_by-cons}
use Rattle.lfs_meta.specs.declared.tail.Tail.{Tail}
use Rattle.lfs_meta.specs.Body.{Pair}
use Rattle.lfs_meta.specs.Complete.{IsComplete}
use Rattle.lfs_meta.specs.Entry.{StoredEntry}
use Rattle.lfs_fs.specs.Front.{pair_names, pairs_name}
use Rattle.lfs_fs.specs.Gathering.{PairPart, delta_from}
use Rattle.lfs_fs.specs.Pair.{unordered}
use Rattle.lfs_fs.proofs.ContainsLemmas.{contains_cases, contains_first, contains_later, contains_none}
use Rattle.lfs_fs.proofs.PairLemmas.{same_pair-is}
use Rattle.lfs_lower.proofs.PartsPut.{pairs_in}
use Rattle.lfs_settle.specs.Moved.{is_move, means, moved_entry, unmoved, without_at}
use Rattle.lfs_settle.specs.Reached.{begins_in, groups, named_within, parts_of, reached_of}
use Rattle.lfs_settle.specs.Reaching.{AreApart, begins_with}
use Rattle.lfs_settle.specs.Settled.{ending, settled_parts, tail_to, threaded, without_share}
use Rattle.lfs_settle.proofs.MovedEntry.{without_past}
use Rattle.lfs_settle.proofs.SettledThread.{pairs_same, parts_of_groups}

-- ---- what stays of the parts

-- each of parts has a property
abbrev Each : (PairPart → Type 0) → List PairPart → Type 0
Each P ps = AllByRecursion P ps

each_append : (P : PairPart → Type 0) (ps qs : List PairPart) → Each P ps → Each P qs → Each P (ps ++ qs)
each_append P [] qs left right = right
each_append P (p ∷ ps) qs left right = (left.0, each_append P ps qs left.1 right)

each_left : (P : PairPart → Type 0) (ps qs : List PairPart) → Each P (ps ++ qs) → Each P ps
each_left P [] qs all = tt
each_left P (p ∷ ps) qs all = (all.0, each_left P ps qs all.1)

each_right : (P : PairPart → Type 0) (ps qs : List PairPart) → Each P (ps ++ qs) → Each P qs
each_right P [] qs all = all
each_right P (p ∷ ps) qs all = each_right P ps qs all.1

each_filtered_by : (P : PairPart → Type 0) (t : Bool) (g : List PairPart) (gs : List (List PairPart)) → Each P g → Each P (parts_of gs)
    → Each P (parts_of (cond t (g ∷ gs) gs))
each_filtered_by P true g gs here rest = each_append P g (parts_of gs) here rest
each_filtered_by P false g gs here rest = rest

each_filtered : (P : PairPart → Type 0) (test : List PairPart → Bool) (gs : List (List PairPart)) → Each P (parts_of gs)
    → Each P (parts_of (filter test gs))
each_filtered P test [] all = tt
each_filtered P test (g ∷ gs) all =
    each_filtered_by P (test g) g (filter test gs) (each_left P g (parts_of gs) all)
    (each_filtered P test gs (each_right P g (parts_of gs) all))

-- a property of a part's pair and entries alone
record OfEntries (P : PairPart → Type 0) : Type 0 where
  keeps : (p : PairPart) (tail : Tail) (delta : List ℕ) → P p → P (p.0, record { entries = p.1.entries; tail = tail; delta = delta })

each_ending : (P : PairPart → Type 0) → OfEntries P → (tail : Tail) (g : List PairPart) → Each P g → Each P (ending tail g)
each_ending P of tail [] all = tt
each_ending P of tail (p ∷ []) all = (of.keeps p tail p.1.delta all.0, tt)
each_ending P of tail (p ∷ q ∷ ps) all = (all.0, each_ending P of tail (q ∷ ps) all.1)

each_threaded : (P : PairPart → Type 0) → OfEntries P → (gs : List (List PairPart)) → Each P (parts_of gs) → Each P (threaded gs)
each_threaded P of [] all = tt
each_threaded P of (g ∷ gs) all =
    each_append P (ending (tail_to gs) g) (threaded gs) (each_ending P of (tail_to gs) g (each_left P g (parts_of gs) all))
    (each_threaded P of gs (each_right P g (parts_of gs) all))

each_cleared : (P : PairPart → Type 0) → OfEntries P → (t : Bool) (ps : List PairPart) → Each P ps → Each P (if t then ps else map without_share ps)
each_cleared P of true ps all = all
each_cleared P of false [] all = tt
each_cleared P of false (p ∷ ps) all = (of.keeps p p.1.tail (replicate 12 0) all.0, each_cleared P of false ps all.1)

-- the part that it was
pub record IsFrom (ts : List PairPart) (q : PairPart) : Type 0 where
  pub part : PairPart
  pub there : Contains ts part
  pub pair : part.0 ≡ q.0
  pub number : ℕ
  pub entries : q.1.entries ≡ without_at number part.1.entries

from_keeps : (ts : List PairPart) → OfEntries (IsFrom ts)
from_keeps ts = record {
  keeps = λ p tail delta of. record { part = of.part; there = of.there; pair = of.pair; number = of.number; entries = of.entries };
}

left_by : (t : Bool) (n : ℕ) (es : List StoredEntry) → (m : ℕ) × ((if t then without_at n es else es) ≡ without_at m es)
left_by true n es = (n, refl)
left_by false n es = (length es, sym (without_past es (length es) (omega arith)))

unmoved_from : (state : ℕ) (ts : List PairPart) (p : PairPart) → Contains ts p → IsFrom ts (unmoved state p)
unmoved_from state ts p there =
    let left = left_by (is_move state && means state p.0) (moved_entry state) p.1.entries in
    record { part = p; there = there; pair = refl; number = left.0; entries = left.1 }

all_unmoved : (state : ℕ) (all ts : List PairPart) → ((p : PairPart) → Contains ts p → Contains all p) → Each (IsFrom all) (map (unmoved state) ts)
all_unmoved state all [] inside = tt
all_unmoved state all (p ∷ ts) inside =
    (unmoved_from state all p (inside p (contains_first p ts)), all_unmoved state all ts (λ q there. inside q (contains_later p ts q there)))

settled_each : (ts : List PairPart) → Each (IsFrom ts) (settled_parts ts)
settled_each ts =
    let left : List PairPart = map (unmoved (delta_from ts)) ts in
    let before : List PairPart = threaded (reached_of (groups left)) in
    each_cleared (IsFrom ts) (from_keeps ts) (delta_from before == 0) before
    (each_threaded (IsFrom ts) (from_keeps ts) (reached_of (groups left))
    (each_filtered (IsFrom ts) (begins_in (named_within (groups left) (length (groups left)))) (groups left)
    (subst (Each (IsFrom ts)) (sym (parts_of_groups left)) (all_unmoved (delta_from ts) ts ts (λ p there. there)))))

each_contains : (P : PairPart → Type 0) (ps : List PairPart) (p : PairPart) → Each P ps → Contains ps p → P p
each_contains P [] p all there = absurd (contains_none p there)
each_contains P (q ∷ ps) p all there =
    elim (contains_cases q ps p there) [ inl is ↦ subst P (sym is) all.0 | inr later ↦ each_contains P ps p all.1 later ]

pub settled_from : (ts : List PairPart) (q : PairPart) → Contains (settled_parts ts) q → IsFrom ts q
settled_from ts q there = each_contains (IsFrom ts) (settled_parts ts) q (settled_each ts) there

-- ---- entries without one are complete

complete_without : (n : ℕ) (es : List StoredEntry) → AllByRecursion IsComplete es → AllByRecursion IsComplete (without_at n es)
complete_without n [] all = tt
complete_without zero (e ∷ es) all = all.1
complete_without (suc n) (e ∷ es) all = (all.0, complete_without n es all.1)

pub settled_complete : (ts : List PairPart) → ((p : PairPart) → Contains ts p → AllByRecursion IsComplete p.1.entries) → (q : PairPart)
    → Contains (settled_parts ts) q → AllByRecursion IsComplete q.1.entries
settled_complete ts complete q there =
    let from = settled_from ts q there in
    subst (AllByRecursion IsComplete) (sym from.entries) (complete_without from.number from.part.1.entries (complete from.part from.there))

-- as many entries are the same ones
pub as_many : (n : ℕ) (es : List StoredEntry) → length (without_at n es) ≡ length es → without_at n es ≡ es
as_many n [] len = refl
as_many zero (e ∷ es) len = absurd (omega (arith, len))
as_many (suc n) (e ∷ es) len = ap (λ (xs : List StoredEntry). e ∷ xs) (as_many n es (omega (arith, len)))

-- ---- no two directories begin at one pair

block_by : (t : Bool) (k p : Pair) → k ≡ (if t then p else (p.1, p.0)) → 1 ≤ pair_names k.0 p
block_by true k p is = let first : k.0 ≡ p.0 = ap (λ (x : Pair). x.0) is in grind (arith, nat_tests)
block_by false k p is = let first : k.0 ≡ p.1 = ap (λ (x : Pair). x.0) is in grind (arith, nat_tests)

begins_names : (k : Pair) (g : List PairPart) → begins_with k g ≡ true → 1 ≤ pairs_name k.0 (pairs_in g)
begins_names k [] is = cc
begins_names k (p ∷ ps) is =
    let here : 1 ≤ pair_names k.0 p.0 = block_by (nat_le p.0.0 p.0.1) k p.0 (same_pair-is k (unordered p.0) is) in
    omega (arith, here, sum_by-cons (pair_names k.0) p.0 (pairs_in ps))

parts_sum : (b : ℕ) (g : List PairPart) (gs : List (List PairPart))
    → pairs_name b (pairs_in (parts_of (g ∷ gs))) ≡ pairs_name b (pairs_in g) + pairs_name b (pairs_in (parts_of gs))
parts_sum b g gs =
    ap (pairs_name b) (map-append (λ (p : PairPart). p.0) g (parts_of gs))
    ∙ sum_by-append (pair_names b) (pairs_in g) (pairs_in (parts_of gs))

got_names : (k : Pair) (gs : List (List PairPart)) (i : ℕ) (g : List PairPart) → slice_get gs i ≡ Some g → begins_with k g ≡ true
    → 1 ≤ pairs_name k.0 (pairs_in (parts_of gs))
got_names k [] i g at is = cc
got_names k (h ∷ gs) zero g at is =
    let same : h ≡ g = cc in
    let here : 1 ≤ pairs_name k.0 (pairs_in h) = subst (λ (x : List PairPart). 1 ≤ pairs_name k.0 (pairs_in x)) (sym same) (begins_names k g is) in
    omega (arith, here, parts_sum k.0 h gs)
got_names k (h ∷ gs) (suc i) g at is = omega (arith, got_names k gs i g at is, parts_sum k.0 h gs)

pub are_apart : (gs : List (List PairPart)) → ((b : ℕ) → pairs_name b (pairs_in (parts_of gs)) ≤ 1) → AreApart gs
are_apart [] once i j g h k at there begins begins_too = cc
are_apart (x ∷ gs) once zero zero g h k at there begins begins_too = refl
are_apart (x ∷ gs) once zero (suc j) g h k at there begins begins_too =
    let same : x ≡ g = cc in
    let here : 1 ≤ pairs_name k.0 (pairs_in x) =
    subst (λ (y : List PairPart). 1 ≤ pairs_name k.0 (pairs_in y)) (sym same) (begins_names k g begins) in
    absurd (omega (arith, here, got_names k gs j h there begins_too, parts_sum k.0 x gs, once k.0))
are_apart (x ∷ gs) once (suc i) zero g h k at there begins begins_too =
    let same : x ≡ h = cc in
    let here : 1 ≤ pairs_name k.0 (pairs_in x) =
    subst (λ (y : List PairPart). 1 ≤ pairs_name k.0 (pairs_in y)) (sym same) (begins_names k h begins_too) in
    absurd (omega (arith, here, got_names k gs i g at begins, parts_sum k.0 x gs, once k.0))
are_apart (x ∷ gs) once (suc i) (suc j) g h k at there begins begins_too =
    ap (λ (n : ℕ). suc n)
    (are_apart gs (λ b. omega (arith, once b, parts_sum b x gs)) i j g h k at there begins begins_too)

-- the directories of parts without the moved entry
pub groups_apart : (state : ℕ) (ts : List PairPart) → ((b : ℕ) → pairs_name b (pairs_in ts) ≤ 1) → AreApart (groups (map (unmoved state) ts))
groups_apart state ts once =
    are_apart (groups (map (unmoved state) ts))
    (λ b. subst (λ (n : ℕ). n ≤ 1)
    (sym (ap (λ (xs : List PairPart). pairs_name b (pairs_in xs)) (parts_of_groups (map (unmoved state) ts))
    ∙ ap (pairs_name b) (pairs_same (unmoved state) (λ p. refl) (λ p. refl) ts))) (once b))
