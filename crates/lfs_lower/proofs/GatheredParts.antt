-- The parts of the superblocks' pairs, gathered one after another.
use Rattle.std.proofs.Common.{◌≡◌, ℕ, ◌≤◌, Bool, true, false, List, [], ◌∷◌, ◌++◌, length, replicate, Option, Some, None, Result, Ok, Err, zero, suc, refl, ap, sym, ◌∙◌, arith}
use Rattle.std.specs.Prelude.{All, slice_index_or, not, option_map, option_and_then, option_to_list, if◌then◌else◌}
use Rattle.std.specs.List.{AllByRecursion}
use Rattle.std.specs.Result.{IfErr, OnOk, is_err}
use Rattle.std.proofs.lemmas.Bool.Decides.{nat_tests}
use Rattle.std.proofs.lemmas.Bool.{false_from_ne_true}
use Rattle.std.proofs.lemmas.List.{append-nil, append_assoc, length-replicate}
use Rattle.std.proofs.lemmas.List.Elements.{All-push, All-nil}
use Rattle.std.proofs.lemmas.List.Folds.{sum_by-replicate}
use Rattle.lfs_block.specs.declared.mount_fault.MountFault.{MountFault}
use Rattle.lfs_block.specs.declared.mount_fault.MountFault.TheVariants.{BlockRange, BlockTwice}
use Rattle.lfs_meta.specs.Body.{Pair}
use Rattle.lfs_meta.specs.Part.{StoredPart}
use Rattle.lfs_meta.specs.Complete.{IsComplete}
use Rattle.lfs_fs.specs.Pair.{root}
use Rattle.lfs_fs.specs.Front.{pairs_name}
use Rattle.lfs_fs.specs.Gathering.{PairPart}
use Rattle.lfs_fs.specs.Reading.{Reading}
use Rattle.lfs_fs.specs.Used.{AddsBlocks, AreTaken, Marks, marked, unmarked}
use Rattle.lfs_fs.proofs.ThreadReadLemmas.{marked_once, pair_within, pairs_more}
use Rattle.lfs_lower.specs.OneSuperblock.{behind_superblock, is_fresh, lead, lead_by, pairs_along, superblock_pairs}
use Rattle.lfs_lower.specs.Joining.{AreGathered, parts_held}
use Rattle.lfs_lower.proofs.FreshPairs.{IsFresh, fresh_is, is_fresh_is}

-- ---- what pairs hold

pub held_some : (r : Reading) (p : Pair) (ps : List Pair) (s : StoredPart) → r.part p ≡ Some s → parts_held r (p ∷ ps) ≡ (p, s) ∷ parts_held r ps
held_some r p ps s read =
    ap (λ (o : Option StoredPart). option_to_list (option_map (λ (x : StoredPart). (p, x)) o) ++ parts_held r ps) read

pub held_none : (r : Reading) (p : Pair) (ps : List Pair) → r.part p ≡ None → parts_held r (p ∷ ps) ≡ parts_held r ps
held_none r p ps read =
    ap (λ (o : Option StoredPart). option_to_list (option_map (λ (x : StoredPart). (p, x)) o) ++ parts_held r ps) read

-- no pair follows where none is named
pub along_none : (step : Pair → Option Pair) (count : ℕ) (before : List Pair) (n : ℕ) → pairs_along step count before n None ≡ []
along_none step count before zero = refl
along_none step count before (suc n) = refl

-- nor where it isn't fresh
along_stops : (step : Pair → Option Pair) (count : ℕ) (before : List Pair) (n : ℕ) (p : Pair) → is_fresh count before p ≡ false
    → pairs_along step count before n (Some p) ≡ []
along_stops step count before zero p is = refl
along_stops step count before (suc n) p is = rw is refl

by_none : (r : Reading) (t : Bool) (p : Pair) (rest : List Pair) → r.part p ≡ None → parts_held r rest ≡ []
    → parts_held r (if t then p ∷ rest else []) ≡ []
by_none r true p rest read none = held_none r p rest read ∙ none
by_none r false p rest read none = refl

pub lead_none : (r : Reading) (p : Pair) → r.part p ≡ None → lead r p ≡ None
lead_none r p read = ap (λ (o : Option StoredPart). option_and_then (λ (s : StoredPart). lead_by s.tail (behind_superblock s.entries)) o) read

lead_some : (r : Reading) (p : Pair) (s : StoredPart) → r.part p ≡ Some s → lead r p ≡ lead_by s.tail (behind_superblock s.entries)
lead_some r p s read = ap (λ (o : Option StoredPart). option_and_then (λ (s : StoredPart). lead_by s.tail (behind_superblock s.entries)) o) read

-- a pair without a part leads nowhere
along_unread : (r : Reading) (count : ℕ) (before : List Pair) (n : ℕ) (p : Pair) → r.part p ≡ None
    → parts_held r (pairs_along (lead r) count before n (Some p)) ≡ []
along_unread r count before zero p read = refl
along_unread r count before (suc n) p read =
    by_none r (is_fresh count before p) p (pairs_along (lead r) count (before ++ p ∷ []) n (lead r p)) read
    (ap (λ (o : Option Pair). parts_held r (pairs_along (lead r) count (before ++ p ∷ []) n o)) (lead_none r p read)
    ∙ ap (parts_held r) (along_none (lead r) count (before ++ p ∷ []) n))

-- ---- marks

all_false : (count b : ℕ) → slice_index_or (replicate count false) b false ≡ false
all_false zero b = refl
all_false (suc count) zero = refl
all_false (suc count) (suc b) = all_false count b

marked_nothing : (count b : ℕ) → marked (replicate count false) b ≡ 0
marked_nothing count b = ap (λ (u : Bool). if u then 1 else 0) (all_false count b)

unmarked_all : (count : ℕ) → unmarked (replicate count false) ≡ count
unmarked_all count = omega (arith, sum_by-replicate (λ (u : Bool). if not u then 1 else 0) count false)

-- a pair that is marked is fresh behind those that were
fresh_pair : (r : Reading) (used new : List Bool) (before : List Pair) (p : Pair) → length used ≡ r.count
    → Marks used (λ b. pairs_name b before) → AddsBlocks used new (p.0 ∷ p.1 ∷ []) → IsFresh r.count before p
fresh_pair r used new before p len marks adds =
    let within = pair_within r p used new len adds in
    let first = marks p.0 in
    let second = marks p.1 in
    let first_new = adds.marks p.0 in
    let second_new = adds.marks p.1 in
    let first_once = marked_once new p.0 in
    let second_once = marked_once new p.1 in
    record {
      first = within.0;
      second = within.1;
      apart = grind (arith, nat_tests);
      first_new = grind (arith, nat_tests);
      second_new = grind (arith, nat_tests);
    }

-- one that can't be marked isn't
taken_pair : (r : Reading) (fault : MountFault) (used : List Bool) (before : List Pair) (p : Pair) → length used ≡ r.count
    → Marks used (λ b. pairs_name b before) → AreTaken fault used (p.0 ∷ p.1 ∷ []) → IsFresh r.count before p → ⊥
taken_pair r BlockRange used before p len marks (zero, x, below, is, past) fresh = let first = fresh.first in omega arith
taken_pair r BlockRange used before p len marks (suc zero, x, below, is, past) fresh = let second = fresh.second in omega arith
taken_pair r BlockRange used before p len marks (suc (suc k), x, below, is, past) fresh = omega arith
taken_pair r BlockTwice used before p len marks (b, twice) fresh =
    let is = marks b in
    let once = marked_once used b in
    let first = fresh.first_new in
    let second = fresh.second_new in
    let apart = fresh.apart in
    grind (arith, nat_tests)
taken_pair r _ used before p len marks taken fresh = absurd taken

-- a call that was refused, and one that wasn't
pub refused_by : (result : Result (Unit {0}) MountFault) (P : MountFault → Type 0) → is_err result ≡ true → IfErr result P
    → (fault : MountFault) × P fault
refused_by (Ok v) P is h = absurd (cc)
refused_by (Err fault) P is h = (fault, h)

pub marked_by : (result : Result (Unit {0}) MountFault) (P : Type 0) → is_err result ≡ false → OnOk result P → P
marked_by (Ok v) P is h = h
marked_by (Err fault) P is h = absurd (cc)

-- ---- the walk

-- nothing is gathered yet
pub gathered_none : (r : Reading) (used : List Bool) (parts : List PairPart) → used ≡ replicate r.count false → parts ≡ []
    → AreGathered r used parts (Some root)
gathered_none r used parts marks none = record {
  before = [];
  n = r.count;
  len = ap length marks ∙ length-replicate r.count false;
  marks = λ b. ap (λ (u : List Bool). marked u b) marks ∙ marked_nothing r.count b;
  enough = let all = ap unmarked marks ∙ unmarked_all r.count in omega arith;
  left = ap (λ (ps : List PairPart). ps ++ parts_held r (superblock_pairs r)) none;
  complete = rw none (All-nil (λ (p : PairPart). AllByRecursion IsComplete p.1.entries));
}

module _ (r : Reading) (used : List Bool) (parts : List PairPart) (p : Pair) where
  held_more : (new : List Bool) (s : StoredPart) (before : List Pair) (n : ℕ) → length used ≡ r.count
      → Marks used (λ b. pairs_name b before) → unmarked used ≤ n
      → parts ++ parts_held r (pairs_along (lead r) r.count before n (Some p)) ≡ parts_held r (superblock_pairs r)
      → All (λ q. AllByRecursion IsComplete q.1.entries) parts
      → AddsBlocks used new (p.0 ∷ p.1 ∷ []) → r.part p ≡ Some s → AllByRecursion IsComplete s.entries
      → AreGathered r new (parts ++ (p, s) ∷ []) (lead_by s.tail (behind_superblock s.entries))
  held_more new s before zero len marks enough left complete adds read one = let fewer = adds.fewer in absurd (omega arith)
  held_more new s before (suc n) len marks enough left complete adds read one =
      let fresh = is_fresh_is r.count before p (fresh_pair r used new before p len marks adds) in
      let from = lead_by s.tail (behind_superblock s.entries) in
      let rest = pairs_along (lead r) r.count (before ++ p ∷ []) n from in
      let along : pairs_along (lead r) r.count before (suc n) (Some p) ≡ p ∷ rest =
      ap (λ (t : Bool). if t then p ∷ pairs_along (lead r) r.count (before ++ p ∷ []) n (lead r p) else []) fresh
      ∙ ap (λ (o : Option Pair). p ∷ pairs_along (lead r) r.count (before ++ p ∷ []) n o) (lead_some r p s read) in
      record {
        before = before ++ p ∷ [];
        n = n;
        len = adds.len ∙ len;
        marks = λ b. let old = marks b in let more = adds.marks b in let all = pairs_more b before p in omega arith;
        enough = let fewer = adds.fewer in omega arith;
        left = append_assoc parts ((p, s) ∷ []) (parts_held r rest)
            ∙ ap (λ (ps : List PairPart). parts ++ ps) (sym (ap (parts_held r) along ∙ held_some r p rest s read)) ∙ left;
        complete = All-push (λ (q : PairPart). AllByRecursion IsComplete q.1.entries) parts (p, s) complete one;
      }

  -- one part more
  pub gathered_more : (new : List Bool) (s : StoredPart) → AreGathered r used parts (Some p) → AddsBlocks used new (p.0 ∷ p.1 ∷ [])
      → r.part p ≡ Some s → AllByRecursion IsComplete s.entries
      → AreGathered r new (parts ++ (p, s) ∷ []) (lead_by s.tail (behind_superblock s.entries))
  gathered_more new s h adds read one = held_more new s h.before h.n h.len h.marks h.enough h.left h.complete adds read one

  -- all parts are gathered where the pair can't be marked
  pub gathered_taken : (fault : MountFault) → AreGathered r used parts (Some p) → AreTaken fault used (p.0 ∷ p.1 ∷ [])
      → parts ≡ parts_held r (superblock_pairs r)
  gathered_taken fault h taken =
      let stale : is_fresh r.count h.before p ≡ false = false_from_ne_true (is_fresh r.count h.before p)
      (λ is. taken_pair r fault used h.before p h.len h.marks taken (fresh_is r.count h.before p is)) in
      sym (append-nil parts) ∙ ap (λ (ps : List Pair). parts ++ parts_held r ps) (sym (along_stops (lead r) r.count h.before h.n p stale)) ∙ h.left

  -- or where it holds no part
  pub gathered_unread : AreGathered r used parts (Some p) → r.part p ≡ None → parts ≡ parts_held r (superblock_pairs r)
  gathered_unread h read =
      sym (append-nil parts) ∙ ap (λ (ps : List PairPart). parts ++ ps) (sym (along_unread r r.count h.before h.n p read)) ∙ h.left

-- or where none follows
pub gathered_all : (r : Reading) (used : List Bool) (parts : List PairPart) → AreGathered r used parts None
    → parts ≡ parts_held r (superblock_pairs r)
gathered_all r used parts h =
    sym (append-nil parts) ∙ ap (λ (ps : List Pair). parts ++ parts_held r ps) (sym (along_none (lead r) r.count h.before h.n)) ∙ h.left
