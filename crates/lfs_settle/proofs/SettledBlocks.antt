-- An image whose pairs are lowered, and hold the settled parts then, is settled.
use Rattle.std.proofs.Common.{◌≡◌, ◌⊎◌, inl, inr, ℕ, ◌≤◌, ◌<◌, ◌==◌, Bool, true, false, List, [], ◌∷◌, length, Option, Some, None, refl, ap, sym, ◌∙◌, subst, arith}
use Rattle.std.specs.Prelude.{All, Contains, IsSome, ◌&&◌, bytes_eq, find, if◌then◌else◌, not, option_map}
use Rattle.std.specs.List.{AllByRecursion, list_all}
use Rattle.std.specs.Option.{option_map_or, option_or}
use Rattle.std.proofs.lemmas.Bool.{and_parts, both_ways, eqb-true}
use Rattle.std.proofs.lemmas.Slice.Eq.{bytes_eq-Decides}
use Rattle.std.proofs.lemmas.List.Elements.{All-contains, All-map, All-nil, All-weaker}
use Rattle.std.proofs.lemmas.List.Sums.{sum_by-cons}
use Rattle.lfs_block.specs.Disk.{Disk}
use Rattle.lfs_meta.specs.declared.tail.Tail.{Tail}
use Rattle.lfs_meta.specs.declared.tail.Tail.TheVariants.{End, Hard, Soft}
use Rattle.lfs_meta.specs.Body.{Pair}
use Rattle.lfs_meta.specs.Complete.{IsComplete}
use Rattle.lfs_meta.specs.Entry.{StoredEntry}
use Rattle.lfs_meta.specs.Laws.{PartsDependOnTheirBlocks}
use Rattle.lfs_meta.specs.LiveBlock.{stored_part_of}
use Rattle.lfs_meta.specs.Part.{StoredPart}
use Rattle.lfs_fs.specs.Pair.{root, same_pair}
use Rattle.lfs_fs.specs.Front.{Follow, IsThread, after, next_pair, pair_names, pairs_name, tail_of}
use Rattle.lfs_fs.specs.Gathering.{PairPart, delta_from}
use Rattle.lfs_fs.specs.Reading.{Reading}
use Rattle.lfs_fs.proofs.ContainsLemmas.{contains_cases, contains_first, contains_later, contains_mapped, contains_none}
use Rattle.lfs_fs.proofs.EntryAtLemmas.{found}
use Rattle.lfs_fs.proofs.PairLemmas.{same_pair-is, same_pair-refl}
use Rattle.lfs_lower.specs.Joining.{ArePartsPut, CanPut}
use Rattle.lfs_lower.specs.Alone.{IsAlone, IsLeft, IsSame}
use Rattle.lfs_lower.specs.LaterReading.{later_reading_of}
use Rattle.lfs_lower.specs.OneSuperblock.{can_be_put}
use Rattle.lfs_lower.proofs.AloneBlocks.{alone_on}
use Rattle.lfs_lower.proofs.LongestFronts.{names_first}
use Rattle.lfs_lower.proofs.PartsPut.{pair_in, pairs_in}
use Rattle.lfs_settle.specs.InStep.{has_thread, in_step, pairs_named, stepped_part, thread_pairs, thread_parts}
use Rattle.lfs_settle.specs.Laws.{AreLinked, first_pair}
use Rattle.lfs_settle.specs.Lowered.{ArePairsLowered}
use Rattle.lfs_settle.specs.Moved.{can_end}
use Rattle.lfs_settle.specs.Planned.{IsPlan, changed_parts}
use Rattle.lfs_settle.specs.Settled.{IsSettledImage, can_hold, can_settle, is_held, is_kept, same_tail, settled, settled_parts, settled_reading_of, with_parts}
use Rattle.lfs_settle.proofs.SettledFrom.{as_many, settled_complete, settled_from}
use Rattle.lfs_settle.proofs.SettledThread.{settled_linked}
use Rattle.lfs_settle.proofs.SettledImage.{settled_reads}
use Rattle.lfs_settle.proofs.ThreadPairs.{thread_found, thread_is_front}
use Rattle.lfs_settle.proofs.ThreadParts.{LinkedFrom, held_is}
use Rattle.lfs_settle.proofs.ReachedGroups.{contains_filtered}
use Rattle.lfs_settle.proofs.PartLists.{omega_none, contains_of, each_passes, fails, all_are, inside, fewer, left_out, all_can_hold}
use Rattle.lfs_settle.proofs.WholeThread.{settled_first, whole_linked, settled_once, settled_within, names_second, settled_first_within, settled_second_within, settled_apart}

-- ---- a part that is held already

pub tail_is : (s t : Tail) → same_tail s t ≡ true → s ≡ t
tail_is End End is = refl
tail_is (Soft a b) (Soft c d) is = let same : (a, b) ≡ (c, d) = same_pair-is (a, b) (c, d) is in ap (λ (p : Pair). Soft p.0 p.1) same
tail_is (Hard a b) (Hard c d) is = let same : (a, b) ≡ (c, d) = same_pair-is (a, b) (c, d) is in ap (λ (p : Pair). Hard p.0 p.1) same
tail_is End (Soft c d) is = cc
tail_is End (Hard c d) is = cc
tail_is (Soft a b) End is = cc
tail_is (Soft a b) (Hard c d) is = cc
tail_is (Hard a b) End is = cc
tail_is (Hard a b) (Soft c d) is = cc

entries_stepped : (named : List Pair) (o : Option StoredPart) (t s : StoredPart) → option_map (stepped_part named) o ≡ Some t → o ≡ Some s
    → t.entries ≡ s.entries
entries_stepped named None t s is read = cc
entries_stepped named (Some u) t s is read =
    let same : stepped_part named u ≡ t = cc in
    let one : u ≡ s = cc in
    ap (λ (x : StoredPart). x.entries) (sym same) ∙ ap (λ (x : StoredPart). x.entries) one

pub part_is : (q s : StoredPart) → q.entries ≡ s.entries → q.tail ≡ s.tail → q.delta ≡ s.delta → q ≡ s
part_is q s entries tail delta =
    ap (λ (es : List StoredEntry). record { entries = es; tail = q.tail; delta = q.delta }) entries
    ∙ ap (λ (t : Tail). record { entries = s.entries; tail = t; delta = q.delta }) tail
    ∙ ap (λ (d : List ℕ). record { entries = s.entries; tail = s.tail; delta = d }) delta

module _ (r : Reading) where
  -- the parts along the thread, in step, and those that stay
  abbrev along : List PairPart
  along = thread_parts (in_step r)

  abbrev settled_along : List PairPart
  settled_along = settled_parts along

  kept_by : (q : PairPart) → Contains settled_along q → (s : StoredPart) → r.part q.0 ≡ Some s → is_kept q.1 s ≡ true → q.1 ≡ s
  kept_by q there s read kept =
      let all = and_parts ((length q.1.entries == length s.entries) && same_tail q.1.tail s.tail) (bytes_eq q.1.delta s.delta) kept in
      let both = and_parts (length q.1.entries == length s.entries) (same_tail q.1.tail s.tail) all.0 in
      let from = settled_from along q there in
      let named = pairs_named (thread_parts r) in
      let old : from.part.1.entries ≡ s.entries =
      entries_stepped named (r.part from.part.0) from.part.1 s (held_is (in_step r) (thread_pairs (in_step r)) from.part from.there)
      (ap r.part from.pair ∙ read) in
      let many : length q.1.entries ≡ length s.entries = eqb-true (length q.1.entries) (length s.entries) both.0 in
      let same : q.1.entries ≡ from.part.1.entries = from.entries ∙ as_many from.number from.part.1.entries
      (ap length (sym from.entries) ∙ many ∙ ap length (sym old)) in
      part_is q.1 s (same ∙ old) (tail_is q.1.tail s.tail both.1) ((bytes_eq-Decides q.1.delta s.delta).0 all.1)

  held_by : (q : PairPart) (o : Option StoredPart) → Contains settled_along q → r.part q.0 ≡ o → option_map_or (is_kept q.1) o false ≡ true
      → r.part q.0 ≡ Some q.1
  held_by q None there read held = cc
  held_by q (Some s) there read held = read ∙ ap (λ (x : StoredPart). Some x) (sym (kept_by q there s read held))

  -- a pair that holds a part already
  held_already : (q : PairPart) → Contains settled_along q → is_held r q ≡ true → r.part q.0 ≡ Some q.1
  held_already q there held = held_by q (r.part q.0) there refl held

-- ---- the thread of a settled image

one_part : (b : ℕ) (ps : List PairPart) (x y : PairPart) → Contains ps x → Contains ps y → pairs_name b (pairs_in ps) ≤ 1
    → 1 ≤ pair_names b x.0 → 1 ≤ pair_names b y.0 → x ≡ y
one_part b [] x y x_there y_there once x_names y_names = absurd (contains_none x x_there)
one_part b (p ∷ ps) x y x_there y_there once x_names y_names =
    let sum = sum_by-cons (pair_names b) p.0 (pairs_in ps) in
    elim (contains_cases p ps x x_there) [
      | inl x_is ↦ elim (contains_cases p ps y y_there) [
        | inl y_is ↦ x_is ∙ sym y_is
        | inr y_later ↦ absurd (omega (arith, sum, ap (λ (z : PairPart). pair_names b z.0) x_is, once, x_names, y_names, pair_in b ps y y_later))
      ]
      | inr x_later ↦ elim (contains_cases p ps y y_there) [
        | inl y_is ↦ absurd (omega (arith, sum, ap (λ (z : PairPart). pair_names b z.0) y_is, once, x_names, y_names, pair_in b ps x x_later))
        | inr y_later ↦ one_part b ps x y x_later y_later (omega (arith, sum, once)) x_names y_names
      ]
    ]

module _ (r : Reading) (qs : List PairPart) (once : (b : ℕ) → pairs_name b (pairs_in qs) ≤ 1) where
  among_by : (q : PairPart) (o : Option PairPart) → Contains qs q → find (λ x. same_pair q.0 x.0) qs ≡ o
      → option_or (option_map (λ (x : PairPart). x.1) o) (r.part q.0) ≡ Some q.1
  among_by q None there at = absurd (both_ways (same_pair q.0 q.0) (fails (λ (x : PairPart). same_pair q.0 x.0) qs q at there) (same_pair-refl q.0))
  among_by q (Some x) there at =
      let f = found (λ (y : PairPart). same_pair q.0 y.0) qs x at in
      let pair : q.0 ≡ x.0 = same_pair-is q.0 x.0 f.1 in
      let named : 1 ≤ pair_names q.0.0 x.0 = subst (λ (y : Pair). 1 ≤ pair_names q.0.0 y) pair (names_first q.0) in
      ap (λ (y : PairPart). Some y.1) (one_part q.0.0 qs x q f.0 there (once q.0.0) named (names_first q.0))

  -- each pair has its part
  pub has_part : (q : PairPart) → Contains qs q → (with_parts r qs).part q.0 ≡ Some q.1
  has_part q there = among_by q (find (λ (x : PairPart). same_pair q.0 x.0) qs) there refl

  follow_parts : (ps : List PairPart) → ((q : PairPart) → Contains ps q → Contains qs q) → AreLinked ps
      → Follow (next_pair (with_parts r qs)) (first_pair ps) (pairs_in ps) × (after (next_pair (with_parts r qs)) (first_pair ps) (pairs_in ps) ≡ None)
  follow_parts [] all linked = (tt, refl)
  follow_parts (p ∷ ps) all linked =
      let step : next_pair (with_parts r qs) p.0 ≡ first_pair ps = ap tail_of (has_part p (all p (contains_first p ps))) ∙ linked.0 in
      let rest = follow_parts ps (λ q there. all q (contains_later p ps q there)) linked.1 in (
        (refl, subst (λ (o : Option Pair). Follow (next_pair (with_parts r qs)) o (pairs_in ps)) (sym step) rest.0),
        ap (λ (o : Option Pair). after (next_pair (with_parts r qs)) o (pairs_in ps)) step ∙ rest.1,
      )

  -- their pairs are the thread
  pub parts_thread : ((b : ℕ) → 0 < pairs_name b (pairs_in qs) → b < r.count) → AreLinked qs → first_pair qs ≡ Some root
      → IsThread (with_parts r qs) (pairs_in qs)
  parts_thread within linked first =
      let both = follow_parts qs (λ q there. there) linked in
      record {
        front = record {
          follow = subst (λ (o : Option Pair). Follow (next_pair (with_parts r qs)) o (pairs_in qs)) first both.0;
          within = within;
          once = once;
        };
        parts = All-map (λ (p : Pair). IsSome ((with_parts r qs).part p)) (λ (q : PairPart). q.0) qs
            (all_are (λ (q : PairPart). IsSome ((with_parts r qs).part q.0)) qs (λ q there. subst IsSome (sym (has_part q there)) refl));
        ends = ap (λ (o : Option Pair). after (next_pair (with_parts r qs)) o (pairs_in qs)) (sym first) ∙ both.1;
      }

  pub thread_is : ((b : ℕ) → 0 < pairs_name b (pairs_in qs) → b < r.count) → AreLinked qs → first_pair qs ≡ Some root
      → pairs_in qs ≡ thread_pairs (with_parts r qs)
  thread_is within linked first = thread_found (with_parts r qs) (pairs_in qs) (parts_thread within linked first)

-- ---- the parts that are to be put

module _ (d : Disk) (complete : All (λ p. AllByRecursion IsComplete p.1.entries) (thread_parts (in_step (later_reading_of d)))) where
  -- each can be put
  can_put_changed : list_all (λ p. can_be_put d.size d.count p.1) (changed_parts (later_reading_of d)) ≡ true
      → All (CanPut d) (changed_parts (later_reading_of d))
  can_put_changed can = all_are (CanPut d) (changed_parts r) each
    where
      r : Reading
      r = later_reading_of d

      test : PairPart → Bool
      test = λ (p : PairPart). not (is_held r p)

      each : (p : PairPart) → Contains (changed_parts r) p → CanPut d p
      each p there =
          let q = inside test (settled_parts (thread_parts (in_step r))) p there in
          record {
            apart = settled_apart (in_step r) p q;
            first = settled_first_within (in_step r) p q;
            second = settled_second_within (in_step r) p q;
            complete = settled_complete (thread_parts (in_step r))
                (λ x inside. All-contains (λ (y : PairPart). AllByRecursion IsComplete y.1.entries) (thread_parts (in_step r)) x complete inside) p q;
            can = each_passes (λ (y : PairPart). can_be_put d.size d.count y.1) (changed_parts r) p can there;
          }

changed_once : (r : Reading) (b : ℕ) → pairs_name b (pairs_in (changed_parts r)) ≤ 1
changed_once r b =
    omega (
      arith,
      fewer b (λ (p : PairPart). not (is_held r p)) (settled_parts (thread_parts (in_step r))),
      settled_once (in_step r) b,
    )

-- whether an image can be settled, in the order in which it is tested
can_settle_is : (r : Reading) → list_all (λ p. can_be_put r.size r.count p.1) (changed_parts r)
    ≡ list_all (λ p. can_hold r p) (settled_parts (thread_parts (in_step r)))
can_settle_is r =
    all_can_hold (λ p. is_held r p) (λ p. can_be_put r.size r.count p.1) (settled_parts (thread_parts (in_step r)))

-- whether parts can be put, by a size and a count
abbrev all_can : ℕ → ℕ → List PairPart → Bool
all_can size count ps = list_all (λ p. can_be_put size count p.1) ps

-- the test, as the code makes it
pub tested : (d : Disk) (changed : List PairPart) (size count : ℕ) → changed ≡ changed_parts (later_reading_of d) → size ≡ d.size
    → count ≡ d.count
    → (has_thread (in_step (later_reading_of d))
    && can_end (delta_from (thread_parts (in_step (later_reading_of d)))) (thread_parts (in_step (later_reading_of d)))) ≡ true
    → list_all (λ p. can_be_put size count p.1) changed ≡ can_settle (later_reading_of d) (in_step (later_reading_of d))
tested d changed size count is same_size same_count ended =
    let r : Reading = later_reading_of d in
    ap (λ (n : ℕ). all_can n count changed) same_size
    ∙ ap (λ (n : ℕ). all_can d.size n changed) same_count
    ∙ ap (all_can d.size d.count) is
    ∙ can_settle_is r
    ∙ ap (λ (b : Bool). b && list_all (λ (p : PairPart). can_hold r p) (settled_parts (thread_parts (in_step r)))) (sym ended)

pub can_put_all : (d : Disk) (changed parts : List PairPart) (size count : ℕ) → changed ≡ changed_parts (later_reading_of d) → size ≡ d.size
    → count ≡ d.count → parts ≡ thread_parts (in_step (later_reading_of d)) → All (λ p. AllByRecursion IsComplete p.1.entries) parts
    → list_all (λ p. can_be_put size count p.1) changed ≡ true → All (CanPut d) changed
can_put_all d changed parts size count is same_size same_count along complete can =
    subst (All (CanPut d)) (sym is)
    (can_put_changed d (subst (All (λ (p : PairPart). AllByRecursion IsComplete p.1.entries)) along complete)
    (sym (ap (λ (n : ℕ). all_can n count changed) same_size
    ∙ ap (λ (n : ℕ). all_can d.size n changed) same_count
    ∙ ap (all_can d.size d.count) is) ∙ can))

-- the thread of one that can be settled is whole
linked_if : (r : Reading) → can_settle r (in_step r) ≡ true → LinkedFrom (Some root) (thread_parts (in_step r))
linked_if r can =
    whole_linked (in_step r)
    (and_parts (has_thread (in_step r)) (can_end (delta_from (thread_parts (in_step r))) (thread_parts (in_step r)))
    (and_parts (has_thread (in_step r) && can_end (delta_from (thread_parts (in_step r))) (thread_parts (in_step r)))
    (list_all (λ p. can_hold r p) (settled_parts (thread_parts (in_step r)))) can).0).0

-- the pairs of the parts that stay are those along the settled thread
module _ (r : Reading) (can : can_settle r (in_step r) ≡ true) where
  settled_is : settled r ≡ with_parts r (settled_parts (thread_parts (in_step r)))
  settled_is = ap (λ (b : Bool). if b then with_parts r (settled_parts (thread_parts (in_step r))) else r) can

  pairs_are : pairs_in (settled_parts (thread_parts (in_step r))) ≡ thread_pairs (settled r)
  pairs_are =
      let linked = linked_if r can in
      thread_is r (settled_parts (thread_parts (in_step r))) (settled_once (in_step r)) (settled_within (in_step r))
      (settled_linked (thread_parts (in_step r)) linked.linked) (settled_first (thread_parts (in_step r)) linked.first)
      ∙ ap thread_pairs (sym settled_is)

unsettled_is : (r : Reading) → can_settle r (in_step r) ≡ false → settled r ≡ r
unsettled_is r can = ap (λ (b : Bool). if b then with_parts r (settled_parts (thread_parts (in_step r))) else r) can

-- ---- the plan

pub settling_plan : (d : Disk) (pairs : List Pair) (changed : List PairPart) → can_settle (later_reading_of d) (in_step (later_reading_of d)) ≡ true
    → pairs ≡ pairs_in (settled_parts (thread_parts (in_step (later_reading_of d)))) → changed ≡ changed_parts (later_reading_of d)
    → All (CanPut d) changed → IsPlan d pairs changed
settling_plan d pairs changed can same_pairs same_parts can_put =
    let r : Reading = later_reading_of d in
    record {
      pairs_are = same_pairs ∙ pairs_are r can;
      changed_are = same_parts ∙ ap (λ (b : Bool). if b then changed_parts r else []) (sym can);
      can = can_put;
    }

pub lowering_plan : (d : Disk) (pairs : List Pair) (changed : List PairPart) → can_settle (later_reading_of d) (in_step (later_reading_of d)) ≡ false
    → pairs ≡ thread_pairs (later_reading_of d) → changed ≡ [] → IsPlan d pairs changed
lowering_plan d pairs changed can same_pairs none =
    let r : Reading = later_reading_of d in
    record {
      pairs_are = same_pairs ∙ ap thread_pairs (sym (unsettled_is r can));
      changed_are = none ∙ ap (λ (b : Bool). if b then changed_parts r else []) (sym can);
      can = subst (All (CanPut d)) (sym none) (All-nil (CanPut d));
    }

module _ (d : Disk) (pairs : List Pair) (changed : List PairPart) (plan : IsPlan d pairs changed) where
  pub planned_once : (b : ℕ) → pairs_name b pairs ≤ 1
  planned_once b = omega (arith, ap (pairs_name b) plan.pairs_are, (thread_is_front (settled_reading_of d)).once b)

  pub planned_within : (b : ℕ) → 0 < pairs_name b pairs → b < d.count
  planned_within b some =
      subst (λ (n : ℕ). b < n) (settled_reads d).count
      ((thread_is_front (settled_reading_of d)).within b (omega (arith, some, ap (pairs_name b) plan.pairs_are)))

  put_once_by : (t : Bool) (b : ℕ) → pairs_name b (pairs_in (if t then changed_parts (later_reading_of d) else [])) ≤ 1
  put_once_by true b = changed_once (later_reading_of d) b
  put_once_by false b = omega arith

  pub put_once : (b : ℕ) → pairs_name b (pairs_in changed) ≤ 1
  put_once b =
      subst (λ (ps : List PairPart). pairs_name b (pairs_in ps) ≤ 1) (sym plan.changed_are)
      (put_once_by (can_settle (later_reading_of d) (in_step (later_reading_of d))) b)

  -- what can be put on a disk can be put on one of the same blocks
  pub still_can : (m : Disk) → m.size ≡ d.size → m.count ≡ d.count → All (CanPut m) changed
  still_can m size count = All-weaker (CanPut d) (CanPut m) (λ p can. record {
    apart = can.apart;
    first = subst (λ (n : ℕ). p.0.0 < n) (sym count) can.first;
    second = subst (λ (n : ℕ). p.0.1 < n) (sym count) can.second;
    complete = can.complete;
    can = ap (λ (n : ℕ). can_be_put n m.count p.1) size ∙ ap (λ (n : ℕ). can_be_put d.size n p.1) count ∙ can.can;
  }) changed plan.can

-- ---- the image

module _ (depend : PartsDependOnTheirBlocks) (d m e : Disk) where
  -- a pair whose blocks stay is as it was once it was lowered
  left_by : (p : Pair) → IsSame m e p → IsLeft d m p ⊎ IsAlone m p → e.size ≡ m.size → IsLeft d e p ⊎ IsAlone e p
  left_by p same (inl is) size =
      inl (record { first_plain = is.first_plain; second_plain = is.second_plain; same = (same.0 ∙ is.same.0, same.1 ∙ is.same.1) })
  left_by p same (inr alone) size = inr (alone_on m e p size same alone)

  abbrev old : Reading
  old = later_reading_of d

  abbrev left : List PairPart
  left = settled_parts (thread_parts (in_step old))

  module _ (can : can_settle old (in_step old) ≡ true) (low : ArePairsLowered d m (pairs_in left)) (put : ArePartsPut m e (changed_parts old)) where
    -- the blocks of a part that isn't put stay
    unput_same : (q : PairPart) → Contains left q → is_held old q ≡ true → IsSame m e q.0
    unput_same q there held =
        let test : PairPart → Bool = λ (p : PairPart). not (is_held old p) in
        let out : test q ≡ false = ap not held in
        let first = omega_none q.0.0 (left_out q.0.0 test left q there out) (settled_once (in_step old) q.0.0) (names_first q.0) in
        let second = omega_none q.0.1 (left_out q.0.1 test left q there out) (settled_once (in_step old) q.0.1) (names_second q.0) in
        (put.others q.0.0 first, put.others q.0.1 second)

    lowered_there : (q : PairPart) → Contains left q → Contains (pairs_in left) q.0
    lowered_there q there = contains_mapped (λ (x : PairPart). x.0) left q there

    -- it is held already, and its pair is lowered
    stays : (q : PairPart) → Contains left q → is_held old q ≡ true → stored_part_of e q.0 ≡ Some q.1
    stays q there held =
        (depend e m q.0 (unput_same q there held)).2 ∙ low.held q.0 (lowered_there q there) ∙ held_already old q there held

    put_there : (q : PairPart) (t : Bool) → Contains left q → is_held old q ≡ t → stored_part_of e q.0 ≡ Some q.1
    put_there q true there is = stays q there is
    put_there q false there is =
        put.held q (contains_filtered (λ (p : PairPart). not (is_held old p)) left q there (ap not is))

    held_there : (q : PairPart) → Contains left q → stored_part_of e q.0 ≡ (settled old).part q.0
    held_there q there =
        put_there q (is_held old q) there refl
        ∙ sym (has_part old left (settled_once (in_step old)) q there)
        ∙ ap (λ (x : Reading). x.part q.0) (sym (settled_is old can))

    alone_by : (q : PairPart) (t : Bool) → Contains left q → is_held old q ≡ t → IsLeft d e q.0 ⊎ IsAlone e q.0
    alone_by q true there is = left_by q.0 (unput_same q there is) (low.alone q.0 (lowered_there q there)) put.size
    alone_by q false there is =
        elim (put.alone q (contains_filtered (λ (p : PairPart). not (is_held old p)) left q there (ap not is))) [
          | inl same ↦ left_by q.0 same (low.alone q.0 (lowered_there q there)) put.size
          | inr alone ↦ inr alone
        ]

    settled_image : IsSettledImage d e
    settled_image = record {
      disk = put.disk;
      size = put.size ∙ low.size;
      count = put.count ∙ low.count;
      held = λ p there.
          let q = contains_of (λ (x : PairPart). x.0) left p (subst (λ (ps : List Pair). Contains ps p) (sym (pairs_are old can)) there) in
          subst (λ (x : Pair). stored_part_of e x ≡ (settled old).part x) q.2 (held_there q.0 q.1);
      alone = λ p there.
          let q = contains_of (λ (x : PairPart). x.0) left p (subst (λ (ps : List Pair). Contains ps p) (sym (pairs_are old can)) there) in
          subst (λ (x : Pair). IsLeft d e x ⊎ IsAlone e x) q.2 (alone_by q.0 (is_held old q.0) q.1 refl);
      others = λ b none.
          let unnamed : pairs_name b (pairs_in left) ≡ 0 = ap (pairs_name b) (pairs_are old can) ∙ none in
          put.others b (omega (arith, fewer b (λ (p : PairPart). not (is_held old p)) left, unnamed)) ∙ low.others b unnamed;
    }

  -- where it can't be settled, it is lowered
  lowered_image : can_settle old (in_step old) ≡ false → ArePairsLowered d m (thread_pairs old) → ArePartsPut m e [] → IsSettledImage d e
  lowered_image can low put =
      let same : settled old ≡ old = unsettled_is old can in
      record {
        disk = put.disk;
        size = put.size ∙ low.size;
        count = put.count ∙ low.count;
        held = λ p there.
            (depend e m p (put.others p.0 refl, put.others p.1 refl)).2
            ∙ low.held p (subst (λ (q : Reading). Contains (thread_pairs q) p) same there)
            ∙ ap (λ (q : Reading). q.part p) (sym same);
        alone = λ p there.
            left_by p (put.others p.0 refl, put.others p.1 refl)
            (low.alone p (subst (λ (q : Reading). Contains (thread_pairs q) p) same there)) put.size;
        others = λ b none.
            put.others b refl ∙ low.others b (ap (λ (q : Reading). pairs_name b (thread_pairs q)) (sym same) ∙ none);
      }

  image_by : (pairs : List Pair) (changed : List PairPart) (t : Bool) → can_settle old (in_step old) ≡ t → IsPlan d pairs changed
      → ArePairsLowered d m pairs → ArePartsPut m e changed → IsSettledImage d e
  image_by pairs changed true can plan low put =
      settled_image can
      (subst (ArePairsLowered d m) (plan.pairs_are ∙ sym (pairs_are old can)) low)
      (subst (ArePartsPut m e) (plan.changed_are ∙ ap (λ (b : Bool). if b then changed_parts old else []) can) put)
  image_by pairs changed false can plan low put =
      lowered_image can
      (subst (ArePairsLowered d m) (plan.pairs_are ∙ ap thread_pairs (unsettled_is old can)) low)
      (subst (ArePartsPut m e) (plan.changed_are ∙ ap (λ (b : Bool). if b then changed_parts old else []) can) put)

  pub planned_image : (pairs : List Pair) (changed : List PairPart) → IsPlan d pairs changed → ArePairsLowered d m pairs
      → ArePartsPut m e changed → IsSettledImage d e
  planned_image pairs changed plan low put = image_by pairs changed (can_settle old (in_step old)) refl plan low put
