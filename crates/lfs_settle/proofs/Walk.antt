-- The parts along a thread, read one after another.
use Rattle.std.proofs.Common.{◌≡◌, ℕ, zero, suc, ◌≤◌, ◌==◌, Bool, true, false, List, [], ◌∷◌, ◌++◌, length, replicate, Option, Some, None}
use Rattle.std.proofs.Common.{refl, ap, sym, ◌∙◌, subst, arith, append-nil, append_assoc}
use Rattle.std.specs.Prelude.{◌&&◌, if◌then◌else◌, not, slice_index_or}
use Rattle.std.specs.List.{AllByRecursion}
use Rattle.std.specs.Option.{is_none}
use Rattle.std.proofs.lemmas.Bool.{and_left, and_right, eq-eqb, false_from_ne_true, ne_eqb}
use Rattle.std.proofs.lemmas.Bool.Decides.{nat_tests}
use Rattle.std.proofs.lemmas.Grind.{flat_map-append}
use Rattle.std.proofs.lemmas.List.{length-append, length-replicate}
use Rattle.std.proofs.lemmas.List.Elements.{All-nil, All-push}
use Rattle.std.proofs.lemmas.List.Folds.{sum_by-replicate}
use Rattle.lfs_block.specs.declared.mount_fault.MountFault.{MountFault}
use Rattle.lfs_block.specs.declared.mount_fault.MountFault.TheVariants.{BlockRange, BlockTwice}
use Rattle.lfs_meta.specs.Body.{Pair}
use Rattle.lfs_meta.specs.Complete.{IsComplete}
use Rattle.lfs_meta.specs.Part.{StoredPart}
use Rattle.lfs_fs.specs.Pair.{root}
use Rattle.lfs_fs.specs.Front.{IsFront, next_after, next_pair, pairs_name, tail_of}
use Rattle.lfs_fs.specs.Gathering.{PairPart}
use Rattle.lfs_fs.specs.Reading.{Reading}
use Rattle.lfs_fs.specs.Thread.{next}
use Rattle.lfs_fs.specs.Used.{AddsBlocks, AreTaken, Marks, marked, unmarked}
use Rattle.lfs_fs.proofs.ThreadReadLemmas.{front_more, marked_once, next_more, pairs_more}
use Rattle.lfs_lower.specs.Joining.{parts_held}
use Rattle.lfs_lower.specs.OneSuperblock.{is_fresh, pairs_along}
use Rattle.lfs_lower.proofs.FreshPairs.{IsFresh, fresh_is, is_fresh_is}
use Rattle.lfs_lower.proofs.GatheredParts.{along_none, held_none, held_some}
use Rattle.lfs_settle.specs.InStep.{has_thread, thread_pairs, thread_parts}
use Rattle.lfs_settle.specs.Walked.{AreWalked}
use Rattle.lfs_settle.proofs.ThreadPairs.{last_fresh}

-- ---- a table without marks

all_false : (count b : ℕ) → slice_index_or (replicate count false) b false ≡ false
all_false zero b = refl
all_false (suc count) zero = refl
all_false (suc count) (suc b) = all_false count b

marked_nothing : (count b : ℕ) → marked (replicate count false) b ≡ 0
marked_nothing count b = ap (λ (u : Bool). if u then 1 else 0) (all_false count b)

unmarked_all : (count : ℕ) → unmarked (replicate count false) ≡ count
unmarked_all count = omega (arith, sum_by-replicate (λ (u : Bool). if not u then 1 else 0) count false)

-- ---- the walk

nothing_walked : (r : Reading) (used : List Bool) → used ≡ replicate r.count false → AreWalked r used [] [] (Some root)
nothing_walked r used marks = record {
  n = r.count;
  len = ap length marks ∙ length-replicate r.count false;
  marks = λ b. ap (λ (u : List Bool). marked u b) marks ∙ marked_nothing r.count b;
  enough = let all = ap unmarked marks ∙ unmarked_all r.count in omega arith;
  left = refl;
  front = record { follow = tt; within = λ b some. absurd (omega arith); once = λ b. omega arith };
  follows = refl;
  parts_are = refl;
  all_read = refl;
  complete = All-nil (λ (p : PairPart). AllByRecursion IsComplete p.1.entries);
}

pub walked_none : (r : Reading) (used : List Bool) (pairs : List Pair) (parts : List PairPart) → used ≡ replicate r.count false → pairs ≡ []
    → parts ≡ [] → AreWalked r used pairs parts (Some root)
walked_none r used pairs parts marks no_pair no_part =
    subst (λ (ps : List Pair). AreWalked r used ps parts (Some root)) (sym no_pair)
    (subst (λ (ps : List PairPart). AreWalked r used [] ps (Some root)) (sym no_part) (nothing_walked r used marks))

-- a pair that is marked makes the front longer
longer_front : (r : Reading) (used new : List Bool) (before : List Pair) (parts : List PairPart) (p : Pair)
    → AreWalked r used before parts (Some p) → AddsBlocks used new (p.0 ∷ p.1 ∷ []) → IsFront r (before ++ p ∷ [])
longer_front r used new before parts p h adds =
    front_more r before p used new h.front h.follows h.len (λ b. let is = h.marks b in omega arith) adds

front_fresh : (r : Reading) (before : List Pair) (p : Pair) → IsFront r (before ++ p ∷ []) → IsFresh r.count before p
front_fresh r before p front = last_fresh r.count before p (record { within = front.within; once = front.once })

pub held_more : (r : Reading) (before : List Pair) (p : Pair) (s : StoredPart) → r.part p ≡ Some s
    → parts_held r (before ++ p ∷ []) ≡ parts_held r before ++ (p, s) ∷ []
held_more r before p s read = flat_map-append _ before (p ∷ []) ∙ ap (λ (xs : List PairPart). parts_held r before ++ xs) (held_some r p [] s read)

pub held_as_before : (r : Reading) (before : List Pair) (p : Pair) → r.part p ≡ None → parts_held r (before ++ p ∷ []) ≡ parts_held r before
held_as_before r before p read =
    flat_map-append _ before (p ∷ []) ∙ ap (λ (xs : List PairPart). parts_held r before ++ xs) (held_none r p [] read)
    ∙ append-nil (parts_held r before)

along_more : (r : Reading) (before : List Pair) (n : ℕ) (p : Pair) → IsFresh r.count before p
    → pairs_along (next_pair r) r.count before (suc n) (Some p)
    ≡ p ∷ pairs_along (next_pair r) r.count (before ++ p ∷ []) n (next_pair r p)
along_more r before n p fresh =
    ap (λ (t : Bool). if t then p ∷ pairs_along (next_pair r) r.count (before ++ p ∷ []) n (next_pair r p) else [])
    (is_fresh_is r.count before p fresh)

-- what is left of a thread after one pair more
left_by : (r : Reading) (before : List Pair) (n : ℕ) (p : Pair) (used new : List Bool) → IsFresh r.count before p → unmarked used ≤ n
    → AddsBlocks used new (p.0 ∷ p.1 ∷ []) → before ++ pairs_along (next_pair r) r.count before n (Some p) ≡ thread_pairs r
    → (m : ℕ) × (unmarked new ≤ m)
    × ((before ++ p ∷ []) ++ pairs_along (next_pair r) r.count (before ++ p ∷ []) m (next_pair r p) ≡ thread_pairs r)
left_by r before zero p used new fresh enough adds left = let fewer = adds.fewer in absurd (omega arith)
left_by r before (suc n) p used new fresh enough adds left = (
  n,
  let fewer = adds.fewer in omega arith,
  append_assoc before (p ∷ []) (pairs_along (next_pair r) r.count (before ++ p ∷ []) n (next_pair r p))
      ∙ ap (λ (ps : List Pair). before ++ ps) (sym (along_more r before n p fresh)) ∙ left,
)

module _ (r : Reading) (used : List Bool) (before : List Pair) (parts : List PairPart) (p : Pair) where
  pub walked_more : (new : List Bool) (s : StoredPart) → AreWalked r used before parts (Some p) → AddsBlocks used new (p.0 ∷ p.1 ∷ [])
      → r.part p ≡ Some s → AllByRecursion IsComplete s.entries → AreWalked r new (before ++ p ∷ []) (parts ++ (p, s) ∷ []) (next s.tail)
  walked_more new s h adds read complete =
      let front = longer_front r used new before parts p h adds in
      let left = left_by r before h.n p used new (front_fresh r before p front) h.enough adds h.left in
      record {
        n = left.0;
        len = adds.len ∙ h.len;
        marks = λ b. let old = h.marks b in let more = adds.marks b in let all = pairs_more b before p in omega arith;
        enough = left.1;
        left = ap (λ (o : Option Pair). (before ++ p ∷ []) ++ pairs_along (next_pair r) r.count (before ++ p ∷ []) left.0 o)
            (sym (ap tail_of read))
            ∙ left.2;
        front = front;
        follows = next_more r before p (p, s) read;
        parts_are = ap (λ (xs : List PairPart). xs ++ (p, s) ∷ []) h.parts_are ∙ sym (held_more r before p s read);
        all_read = omega (arith, h.all_read, length-append parts ((p, s) ∷ []), length-append before (p ∷ []));
        complete = All-push (λ (q : PairPart). AllByRecursion IsComplete q.1.entries) parts (p, s) h.complete complete;
      }

-- ---- its end

-- whether a thread of these pairs is whole
abbrev is_whole : Reading → List Pair → Bool
is_whole r ps = (length (parts_held r ps) == length ps) && is_none (next_after r ps)

-- the pairs along a thread, which is whole or not, and the parts that are read of them
pub record IsWalkedThrough (r : Reading) (pairs : List Pair) (parts : List PairPart) (whole : Bool) : Type 0 where
  pub pairs_are : pairs ≡ thread_pairs r
  pub parts_are : parts ≡ thread_parts r
  pub whole_is : whole ≡ has_thread r

through : (r : Reading) (ps : List Pair) (parts : List PairPart) (whole : Bool) → ps ≡ thread_pairs r → parts ≡ parts_held r ps
    → is_whole r ps ≡ whole → IsWalkedThrough r ps parts whole
through r ps parts whole all are is = record {
  pairs_are = all;
  parts_are = are ∙ ap (parts_held r) all;
  whole_is = sym is ∙ ap (is_whole r) all;
}

along_stops : (step : Pair → Option Pair) (count : ℕ) (before : List Pair) (n : ℕ) (p : Pair) → is_fresh count before p ≡ false
    → pairs_along step count before n (Some p) ≡ []
along_stops step count before zero p is = refl
along_stops step count before (suc n) p is = rw is refl

-- if no pair follows
pub walked_all : (r : Reading) (used : List Bool) (before : List Pair) (parts : List PairPart) → AreWalked r used before parts None
    → IsWalkedThrough r before parts true
walked_all r used before parts h =
    let all : before ≡ thread_pairs r =
    sym (append-nil before) ∙ ap (λ (ps : List Pair). before ++ ps) (sym (along_none (next_pair r) r.count before h.n)) ∙ h.left in
    through r before parts true all h.parts_are
    (ap (λ (b : Bool). b && is_none (next_after r before))
    (eq-eqb (length (parts_held r before)) (length before) (ap length (sym h.parts_are) ∙ h.all_read))
    ∙ ap is_none h.follows)

-- a pair that can't be marked isn't fresh
taken_pair : (r : Reading) (fault : MountFault) (used : List Bool) (before : List Pair) (p : Pair) → length used ≡ r.count
    → Marks used (λ b. pairs_name b before) → AreTaken fault used (p.0 ∷ p.1 ∷ []) → IsFresh r.count before p → ⊥
taken_pair r BlockRange used before p len marks (zero, x, below, is, past) fresh = let first = fresh.first in omega arith
taken_pair r BlockRange used before p len marks (suc zero, x, below, is, past) fresh = let second = fresh.second in omega arith
taken_pair r BlockRange used before p len marks (suc (suc k), x, below, is, past) fresh = omega arith
taken_pair r BlockTwice used before p len marks (b, twice) fresh =
    let is = marks b in
    let once = marked_once used b in
    let first = fresh.first_new in
    let second = fresh.second_new in
    let apart = fresh.apart in
    grind (arith, nat_tests)
taken_pair r _ used before p len marks taken fresh = absurd taken

module _ (r : Reading) (used : List Bool) (before : List Pair) (parts : List PairPart) (p : Pair) where
  -- if the next one can't be marked
  pub walked_taken : (fault : MountFault) → AreWalked r used before parts (Some p) → AreTaken fault used (p.0 ∷ p.1 ∷ [])
      → IsWalkedThrough r before parts false
  walked_taken fault h taken =
      let stale : is_fresh r.count before p ≡ false = false_from_ne_true (is_fresh r.count before p)
      (λ is. taken_pair r fault used before p h.len h.marks taken (fresh_is r.count before p is)) in
      let all : before ≡ thread_pairs r =
      sym (append-nil before) ∙ ap (λ (ps : List Pair). before ++ ps) (sym (along_stops (next_pair r) r.count before h.n p stale))
      ∙ h.left in
      through r before parts false all h.parts_are
      (and_right (length (parts_held r before) == length before) (is_none (next_after r before)) (ap is_none h.follows))

  unread_by : (new : List Bool) (m : ℕ) (h : AreWalked r used before parts (Some p)) → r.part p ≡ None
      → (before ++ p ∷ []) ++ pairs_along (next_pair r) r.count (before ++ p ∷ []) m (next_pair r p) ≡ thread_pairs r
      → IsWalkedThrough r (before ++ p ∷ []) parts false
  unread_by new m h read left =
      let with_it : List Pair = before ++ p ∷ [] in
      let all : with_it ≡ thread_pairs r =
      sym (append-nil with_it)
      ∙ ap (λ (ps : List Pair). with_it ++ ps) (sym (along_none (next_pair r) r.count with_it m))
      ∙ ap (λ (o : Option Pair). with_it ++ pairs_along (next_pair r) r.count with_it m o) (sym (ap tail_of read)) ∙ left in
      let held : parts_held r with_it ≡ parts_held r before = held_as_before r before p read in
      let len : length (parts_held r with_it) ≡ length before = ap length held ∙ ap length (sym h.parts_are) ∙ h.all_read in
      through r with_it parts false all (h.parts_are ∙ sym held)
      (and_left (length (parts_held r with_it) == length with_it) (is_none (next_after r with_it))
      (ne_eqb (length (parts_held r with_it)) (length with_it) (λ same. omega (arith, same, len, length-append before (p ∷ [])))))

  -- if the next one holds no part
  pub walked_unread : (new : List Bool) → AreWalked r used before parts (Some p) → AddsBlocks used new (p.0 ∷ p.1 ∷ []) → r.part p ≡ None
      → IsWalkedThrough r (before ++ p ∷ []) parts false
  walked_unread new h adds read =
      let front = longer_front r used new before parts p h adds in
      let left = left_by r before h.n p used new (front_fresh r before p front) h.enough adds h.left in
      unread_by new left.0 h read left.2
