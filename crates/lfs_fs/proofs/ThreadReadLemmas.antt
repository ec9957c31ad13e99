-- Parts that are read along the tails.
use Rattle.std.proofs.Common.{◌≡◌, ◌⊎◌, ℕ, ◌+◌, ◌<◌, ◌≤◌, Bool, true, false, List, [], ◌∷◌, ◌++◌, length, map, Option, Some, None, zero}
use Rattle.std.proofs.Common.{suc, refl, ap, ◌∙◌, arith, get_or}
use Rattle.std.specs.Prelude.{All, IsSome, slice_index_or, if◌then◌else◌, sum_by, option_to_list}
use Rattle.std.proofs.lemmas.Bool.Decides.{nat_tests}
use Rattle.std.proofs.lemmas.List.{get_or_past}
use Rattle.std.proofs.lemmas.List.Elements.{All-map, All-weaker, Contains-push}
use Rattle.std.proofs.lemmas.List.Sums.{sum_by-append, sum_by-cons}
use mathlib.Core.Logic.{inl, inr}
use Rattle.lfs_block.specs.Disk.{Disk}
use Rattle.lfs_block.specs.declared.mount_fault.MountFault.{MountFault}
use Rattle.lfs_block.specs.declared.mount_fault.MountFault.TheVariants.{NoValidCommit, UnknownTag, BadTag, IncompleteEntry, BadName}
use Rattle.lfs_block.specs.declared.mount_fault.MountFault.TheVariants.{BlockRange, BlockTwice, Memory}
use Rattle.lfs_meta.specs.Body.{Pair}
use Rattle.lfs_meta.specs.Cause.{PairCause, ReadCause}
use Rattle.lfs_fs.specs.Pair.{root}
use Rattle.lfs_fs.specs.Uses.{times, pair_uses, uses}
use Rattle.lfs_fs.specs.Used.{marked, Marks, AddsBlocks, AreTaken}
use Rattle.lfs_fs.specs.Thread.{Link, next}
use Rattle.lfs_fs.specs.Reading.{Reading, reading_of}
use Rattle.lfs_fs.specs.Front.{Follow, after, tail_of, next_pair, next_after, pair_names, pairs_name, IsFront, IsThread}
use Rattle.lfs_fs.specs.Superblock.{Header}
use Rattle.lfs_fs.specs.Held.{link_at, volume_at}
use Rattle.lfs_fs.specs.FrontCause.{Unread}
use Rattle.lfs_fs.specs.Cause.{HasCause}
use Rattle.lfs_fs.specs.Gathering.{PairPart}
use Rattle.lfs_fs.specs.ThreadRead.{pairs_of, IsPartRead}
use Rattle.lfs_fs.proofs.CountLemmas.{uses_at, link_pair, part_uses}

-- ---- marks

either : (u : Bool) → (if u then 1 else 0) ≤ 1
either true = omega arith
either false = omega arith

pub marked_once : (used : List Bool) (b : ℕ) → marked used b ≤ 1
marked_once used b = either (slice_index_or used b false)

past_unmarked : (used : List Bool) (b : ℕ) → length used ≤ b → marked used b ≡ 0
past_unmarked used b past = ap (λ (u : Bool). if u then 1 else 0) (get_or_past used b false past)

pub marked_within : (used : List Bool) (b : ℕ) → 0 < marked used b → b < length used
marked_within used b some =
    grind (arith, past_unmarked used b)

-- ---- fronts

pub follow_more : (step : Pair → Option Pair) (from : Option Pair) (ps : List Pair) (p : Pair) → Follow step from ps
    → after step from ps ≡ Some p → Follow step from (ps ++ p ∷ [])
follow_more step from [] p follow is = (is, tt)
follow_more step from (q ∷ ps) p follow is = (follow.0, follow_more step (step q) ps p follow.1 is)

pub after_more : (step : Pair → Option Pair) (from : Option Pair) (ps : List Pair) (p : Pair) → after step from (ps ++ p ∷ []) ≡ step p
after_more step from [] p = refl
after_more step from (q ∷ ps) p = after_more step (step q) ps p

pub pairs_more : (b : ℕ) (ps : List Pair) (p : Pair) → pairs_name b (ps ++ p ∷ []) ≡ pairs_name b ps + pair_names b p
pairs_more b ps p = omega (arith, sum_by-append (pair_names b) ps (p ∷ []))

-- the pairs are a front, where each block that they name is marked as often at least
marked_front : (r : Reading) (ps : List Pair) (used : List Bool) → Follow (next_pair r) (Some root) ps → length used ≡ r.count
    → ((b : ℕ) → pairs_name b ps ≤ marked used b) → IsFront r ps
marked_front r ps used follow len over = record {
  follow = follow;
  within = λ b some. let is = over b in let within = marked_within used b (omega arith) in omega arith;
  once = λ b. let is = over b in let once = marked_once used b in omega arith;
}

-- the root's first pair alone
pub root_front : (r : Reading) (used : List Bool) → length used ≡ r.count → Marks used (λ b. pairs_name b (root ∷ [])) → IsFront r (root ∷ [])
root_front r used len marks = marked_front r (root ∷ []) used (refl, tt) len (λ b. let is = marks b in omega arith)

-- a pair more that is marked
pub front_more : (r : Reading) (ps : List Pair) (p : Pair) (used new : List Bool) → IsFront r ps → next_after r ps ≡ Some p
    → length used ≡ r.count → ((b : ℕ) → pairs_name b ps ≤ marked used b) → AddsBlocks used new (p.0 ∷ p.1 ∷ []) → IsFront r (ps ++ p ∷ [])
front_more r ps p used new front next_is len over adds =
    marked_front r (ps ++ p ∷ []) new (follow_more (next_pair r) (Some root) ps p front.follow next_is) (adds.len ∙ len)
    (λ b. let is = adds.marks b in let most = over b in let more = pairs_more b ps p in omega arith)

pub next_more : (r : Reading) (ps : List Pair) (p : Pair) (q : PairPart) → r.part p ≡ Some q.1 → next_after r (ps ++ p ∷ []) ≡ next q.1.tail
next_more r ps p q read = after_more (next_pair r) (Some root) ps p ∙ ap tail_of read

part_there : (r : Reading) (p : PairPart) → IsPartRead r p → IsSome (r.part p.0)
part_there r p h = rw h.read refl

pub is_thread : (r : Reading) (ps : List PairPart) → IsFront r (pairs_of ps) → All (IsPartRead r) ps → next_after r (pairs_of ps) ≡ None
    → IsThread r (pairs_of ps)
is_thread r ps front each ends = record {
  front = front;
  parts = All-map (λ (p : Pair). IsSome (r.part p)) (λ (x : PairPart). x.0) ps
      (All-weaker (IsPartRead r) (λ (x : PairPart). IsSome (r.part x.0)) (part_there r) ps each);
  ends = ends;
}

added_within : (used new : List Bool) (blocks : List ℕ) (b : ℕ) → AddsBlocks used new blocks → 0 < times b blocks → b < length used
added_within used new blocks b adds some =
    let marks = adds.marks b in
    let len = adds.len in
    let within = marked_within new b (omega arith) in
    omega arith

-- a pair that is marked has blocks of the disk
pub pair_within : (r : Reading) (p : Pair) (used new : List Bool) → length used ≡ r.count → AddsBlocks used new (p.0 ∷ p.1 ∷ [])
    → (p.0 < r.count) × (p.1 < r.count)
pair_within r p used new len adds =
    let first = added_within used new (p.0 ∷ p.1 ∷ []) p.0 adds (grind (arith, nat_tests)) in
    let second = added_within used new (p.0 ∷ p.1 ∷ []) p.1 adds (grind (arith, nat_tests)) in
    (omega arith, omega arith)

-- ---- why a thread isn't read

unread_by : (d : Disk) (fault : MountFault) (ps : List Pair) (p : Pair) → IsFront (reading_of d) (ps ++ p ∷ []) → PairCause fault d p
    → Unread d fault
unread_by d fault ps p front cause = record { front = ps ++ p ∷ []; is_front = front; pair = p; there = Contains-push ps p; cause = cause }

pub unread_pair : (d : Disk) (fault : MountFault) (ps : List Pair) (p : Pair) → IsFront (reading_of d) (ps ++ p ∷ []) → ReadCause fault d p
    → HasCause d fault
unread_pair d NoValidCommit ps p front cause = unread_by d NoValidCommit ps p front cause
unread_pair d UnknownTag ps p front cause = unread_by d UnknownTag ps p front cause
unread_pair d BadTag ps p front cause = unread_by d BadTag ps p front cause
unread_pair d IncompleteEntry ps p front cause = unread_by d IncompleteEntry ps p front cause
unread_pair d BadName ps p front cause = unread_by d BadName ps p front cause
unread_pair d Memory ps p front cause = tt
unread_pair d _ ps p front cause = absurd cause

pub one_is_past : (count : ℕ) (p : Pair) (k x : ℕ) → k < 2 → get_or (p.0 ∷ p.1 ∷ []) k x ≡ x → count ≤ x → (count ≤ p.0) ⊎ (count ≤ p.1)
one_is_past count p zero x below is past = inl (omega arith)
one_is_past count p (suc zero) x below is past = inr (omega arith)
one_is_past count p (suc (suc k)) x below is past = absurd (omega arith)

-- limits and attributes that don't matter
abbrev pub no_header : Header
no_header = record { limits = record { name = 0; file = 0; attribute = 0 }; attributes = [] }

-- a front uses the blocks of its pairs
pairs_in_links : (r : Reading) (b : ℕ) (ps : List Pair) → pairs_name b ps ≤ sum_by (λ (l : Link). part_uses b l.part) (map (link_at r) ps)
pairs_in_links r b [] = omega arith
pairs_in_links r b (p ∷ ps) =
    let rest = pairs_in_links r b ps in
    let same : pair_uses b (link_at r p).part ≡ pair_names b p = ap (pair_names b) (link_pair r p (r.part p)) in
    omega (arith, sum_by-cons (pair_names b) p ps, sum_by-cons (λ (l : Link). part_uses b l.part) (link_at r p) (map (link_at r) ps))

pub pairs_in_uses : (r : Reading) (h : Header) (b : ℕ) (ps : List Pair) → pairs_name b ps ≤ uses b (volume_at r h ps)
pairs_in_uses r h b ps =
    let all = uses_at r h b ps in
    let some = pairs_in_links r b ps in
    omega arith

-- the pair behind a front can't be marked, where no more is marked than the front uses
pub next_refused : (d : Disk) (fault : MountFault) (ps : List Pair) (p : Pair) (used : List Bool) → IsFront (reading_of d) ps
    → next_after (reading_of d) ps ≡ Some p → length used ≡ d.count
    → ((b : ℕ) → marked used b ≤ uses b (volume_at (reading_of d) no_header ps)) → AreTaken fault used (p.0 ∷ p.1 ∷ []) → HasCause d fault
next_refused d BlockRange ps p used front next_is len most (k, x, below, is, past) =
    inl (record {
      front = ps;
      is_front = front;
      pair = p;
      follows = next_is;
      past = one_is_past d.count p k x below is (omega arith);
    })
next_refused d BlockTwice ps p used front next_is len most (b, twice) =
    let some = most b in
    let one : pairs_name b (option_to_list (next_after (reading_of d) ps)) ≡ pair_names b p =
    ap (λ (o : Option Pair). pairs_name b (option_to_list o)) next_is ∙ omega arith in
    record { header = no_header; front = ps; is_front = front; twice = inl (b, omega arith) }
next_refused d _ ps p used front next_is len most taken = absurd taken
