-- The settled parts of a thread that is whole: they begin at the root's pair, and name blocks of the disk, none twice.
use Rattle.std.proofs.Common.{◌≡◌, ◌≢◌, inl, ℕ, zero, suc, ◌≤◌, ◌<◌, ◌==◌, Bool, true, false, List, [], ◌∷◌, length, map, Option, Some, None, refl, ap, sym, ◌∙◌, subst, arith}
use Rattle.std.specs.Prelude.{Contains, IsSome, cond, if◌then◌else◌}
use Rattle.std.specs.List.{filter, list_any}
use Rattle.std.specs.Option.{is_none}
use Rattle.std.proofs.lemmas.Bool.{and_parts, both_ways, eqb-true}
use Rattle.std.proofs.lemmas.Bool.Decides.{nat_tests}
use Rattle.std.proofs.lemmas.List.Elements.{All-cons, All-nil}
use Rattle.std.proofs.lemmas.List.Sums.{sum_by-cons}
use Rattle.lfs_meta.specs.Body.{Pair}
use Rattle.lfs_meta.specs.Part.{StoredPart}
use Rattle.lfs_fs.specs.Pair.{root}
use Rattle.lfs_fs.specs.Front.{next_after, pair_names, pairs_name}
use Rattle.lfs_fs.specs.Gathering.{PairPart, delta_from}
use Rattle.lfs_fs.specs.Reading.{Reading}
use Rattle.lfs_lower.specs.Joining.{parts_held}
use Rattle.lfs_lower.proofs.GatheredParts.{held_none, held_some}
use Rattle.lfs_lower.proofs.LongestFronts.{names_first}
use Rattle.lfs_lower.proofs.PartsPut.{pair_in, pairs_in}
use Rattle.lfs_settle.specs.InStep.{has_thread, pairs_named, same_blocks, thread_pairs, thread_parts}
use Rattle.lfs_settle.specs.Laws.{first_pair}
use Rattle.lfs_settle.specs.Moved.{unmoved}
use Rattle.lfs_settle.specs.Reached.{begins_in, groups, named_within, parts_of}
use Rattle.lfs_settle.specs.Settled.{settled_parts, threaded, without_share}
use Rattle.lfs_settle.proofs.SettledThread.{groups_begin, settled_name_no_more}
use Rattle.lfs_settle.proofs.ThreadPairs.{thread_is_front}
use Rattle.lfs_settle.proofs.ThreadParts.{AreRead, LinkedFrom, linked_along}
use Rattle.lfs_settle.proofs.ReachedGroups.{either_true}

-- ---- the first pair stays the root's

root_passes : (n : ℕ) (gs : List (List PairPart)) (p : PairPart) (ps : List PairPart) → p.0 ≡ root
    → begins_in (named_within gs n) (p ∷ ps) ≡ true
root_passes zero gs p ps is = either_true (same_blocks p.0 root) false (inl (ap (λ (x : Pair). same_blocks x root) is))
root_passes (suc n) gs p ps is =
    either_true (same_blocks p.0 root) (list_any (same_blocks p.0) (pairs_named (parts_of (filter (begins_in (named_within gs n)) gs))))
    (inl (ap (λ (x : Pair). same_blocks x root) is))

first_kept : (t : Bool) (p : PairPart) (ps : List PairPart) (gs : List (List PairPart)) → t ≡ true
    → first_pair (threaded (cond t ((p ∷ ps) ∷ gs) gs)) ≡ Some p.0
first_kept true p [] gs is = refl
first_kept true p (q ∷ ps) gs is = refl
first_kept false p ps gs is = absurd (both_ways false refl is)

first_cleared : (t : Bool) (ps : List PairPart) → first_pair (if t then ps else map without_share ps) ≡ first_pair ps
first_cleared true ps = refl
first_cleared false [] = refl
first_cleared false (p ∷ ps) = refl

pub settled_first : (ts : List PairPart) → first_pair ts ≡ Some root → first_pair (settled_parts ts) ≡ Some root
settled_first [] is = cc
settled_first (t ∷ ts) is =
    let state = delta_from (t ∷ ts) in
    let left : List PairPart = map (unmoved state) (t ∷ ts) in
    let p : PairPart = unmoved state t in
    let gs : List (List PairPart) = groups left in
    let begun = groups_begin p (map (unmoved state) ts) in
    let at : p.0 ≡ root = cc is in
    let test : List PairPart → Bool = begins_in (named_within gs (length gs)) in
    let before : List PairPart = threaded (filter test gs) in
    first_cleared (delta_from before == 0) before
    ∙ ap (λ (hs : List (List PairPart)). first_pair (threaded (filter test hs))) begun.is
    ∙ first_kept (test (p ∷ begun.parts)) p begun.parts (filter test begun.more) (root_passes (length gs) gs p begun.parts at)
    ∙ ap (λ (x : Pair). Some x) at

-- ---- a thread that is whole

read_by : (r : Reading) (p : Pair) (ps : List Pair) (o : Option StoredPart) → r.part p ≡ o → length (parts_held r ps) ≤ length ps
    → length (parts_held r (p ∷ ps)) ≤ length (p ∷ ps)
read_by r p ps None read most = omega (arith, most, ap length (held_none r p ps read))
read_by r p ps (Some s) read most = omega (arith, most, ap length (held_some r p ps s read))

most_held : (r : Reading) (ps : List Pair) → length (parts_held r ps) ≤ length ps
most_held r [] = omega arith
most_held r (p ∷ ps) = read_by r p ps (r.part p) refl (most_held r ps)

all_read_by : (r : Reading) (p : Pair) (ps : List Pair) (o : Option StoredPart) → r.part p ≡ o
    → length (parts_held r (p ∷ ps)) ≡ length (p ∷ ps) → IsSome (r.part p) × (length (parts_held r ps) ≡ length ps)
all_read_by r p ps None read all = absurd (omega (arith, all, ap length (held_none r p ps read), most_held r ps))
all_read_by r p ps (Some s) read all =
    (subst IsSome (sym read) refl, omega (arith, all, ap length (held_some r p ps s read)))

all_read : (r : Reading) (ps : List Pair) → length (parts_held r ps) ≡ length ps → AreRead r ps
all_read r [] all = All-nil (λ (p : Pair). IsSome (r.part p))
all_read r (p ∷ ps) all =
    let both = all_read_by r p ps (r.part p) refl all in
    All-cons (λ (q : Pair). IsSome (r.part q)) p ps both.0 (all_read r ps both.1)

none_is : {X : Type 0} (o : Option X) → is_none o ≡ true → o ≡ None
none_is None is = refl
none_is (Some x) is = cc

pub whole_linked : (r : Reading) → has_thread r ≡ true → LinkedFrom (Some root) (thread_parts r)
whole_linked r whole =
    let both = and_parts (length (thread_parts r) == length (thread_pairs r)) (is_none (next_after r (thread_pairs r))) whole in
    linked_along r (Some root) (thread_pairs r)
    (all_read r (thread_pairs r) (eqb-true (length (thread_parts r)) (length (thread_pairs r)) both.0))
    (thread_is_front r).follow (none_is (next_after r (thread_pairs r)) both.1)

named_by : (r : Reading) (b : ℕ) (p : Pair) (ps : List Pair) (o : Option StoredPart) → r.part p ≡ o
    → pairs_name b (pairs_in (parts_held r ps)) ≤ pairs_name b ps → pairs_name b (pairs_in (parts_held r (p ∷ ps))) ≤ pairs_name b (p ∷ ps)
named_by r b p ps None read rest =
    omega (arith, rest, ap (λ (xs : List PairPart). pairs_name b (pairs_in xs)) (held_none r p ps read), sum_by-cons (pair_names b) p ps)
named_by r b p ps (Some s) read rest =
    omega (
      arith,
      rest,
      ap (λ (xs : List PairPart). pairs_name b (pairs_in xs)) (held_some r p ps s read),
      sum_by-cons (pair_names b) p (pairs_in (parts_held r ps)),
      sum_by-cons (pair_names b) p ps,
    )

-- the parts of pairs name no more blocks than the pairs
pub held_named : (r : Reading) (b : ℕ) (ps : List Pair) → pairs_name b (pairs_in (parts_held r ps)) ≤ pairs_name b ps
held_named r b [] = omega arith
held_named r b (p ∷ ps) = named_by r b p ps (r.part p) refl (held_named r b ps)

pub thread_once : (r : Reading) (b : ℕ) → pairs_name b (pairs_in (thread_parts r)) ≤ 1
thread_once r b = omega (arith, held_named r b (thread_pairs r), (thread_is_front r).once b)

pub settled_once : (r : Reading) (b : ℕ) → pairs_name b (pairs_in (settled_parts (thread_parts r))) ≤ 1
settled_once r b = omega (arith, settled_name_no_more (thread_parts r) b, thread_once r b)

pub settled_within : (r : Reading) (b : ℕ) → 0 < pairs_name b (pairs_in (settled_parts (thread_parts r))) → b < r.count
settled_within r b some =
    (thread_is_front r).within b (omega (arith, some, settled_name_no_more (thread_parts r) b, held_named r b (thread_pairs r)))

pub names_second : (p : Pair) → 1 ≤ pair_names p.1 p
names_second p = grind (arith, nat_tests)

-- the blocks of a settled part's pair
pub settled_first_within : (r : Reading) (q : PairPart) → Contains (settled_parts (thread_parts r)) q → q.0.0 < r.count
settled_first_within r q there =
    settled_within r q.0.0 (omega (arith, pair_in q.0.0 (settled_parts (thread_parts r)) q there, names_first q.0))

pub settled_second_within : (r : Reading) (q : PairPart) → Contains (settled_parts (thread_parts r)) q → q.0.1 < r.count
settled_second_within r q there =
    settled_within r q.0.1 (omega (arith, pair_in q.0.1 (settled_parts (thread_parts r)) q there, names_second q.0))

pub settled_apart : (r : Reading) (q : PairPart) → Contains (settled_parts (thread_parts r)) q → q.0.0 ≢ q.0.1
settled_apart r q there =
    let named = pair_in q.0.0 (settled_parts (thread_parts r)) q there in
    let once = settled_once r q.0.0 in
    grind (arith, nat_tests)
