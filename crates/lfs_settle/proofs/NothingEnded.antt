-- If nothing is ended, the parts of the thread stay.
use Rattle.std.proofs.Common.{◌≡◌, inl, inr, ℕ, zero, suc, Bool, true, false, List, [], ◌∷◌, ◌++◌, length, map, Option, Some, None, refl, ap, sym, ◌∙◌, subst}
use Rattle.std.specs.Prelude.{Contains, ◌&&◌, cond, flat_map, if◌then◌else◌, not, option_map, option_to_list, slice_get}
use Rattle.std.specs.List.{filter}
use Rattle.std.specs.Option.{option_or}
use Rattle.lfs_meta.specs.declared.tail.Tail.{Tail}
use Rattle.lfs_meta.specs.declared.tail.Tail.TheVariants.{End, Hard, Soft}
use Rattle.lfs_meta.specs.Body.{Pair}
use Rattle.lfs_meta.specs.Entry.{StoredEntry}
use Rattle.lfs_meta.specs.Part.{StoredPart}
use Rattle.lfs_fs.specs.Front.{next_pair, tail_of}
use Rattle.lfs_fs.specs.Gathering.{PairPart, delta_from}
use Rattle.lfs_fs.specs.Pair.{root}
use Rattle.lfs_fs.specs.Reading.{Reading}
use Rattle.lfs_fs.specs.Thread.{soft_to}
use Rattle.lfs_fs.proofs.ContainsLemmas.{contains_cases, contains_none}
use Rattle.lfs_lower.specs.Joining.{parts_held}
use Rattle.lfs_lower.proofs.LongestFronts.{AgreeAt}
use Rattle.lfs_lower.proofs.PairsAlong.{along_alike}
use Rattle.lfs_settle.specs.Ended.{as_dropped, first_moved, moved_in, step_of, step_to, steps_in, steps_of}
use Rattle.lfs_settle.specs.InStep.{first_with, in_step, pairs_named, same_blocks, stepped_part, stepped_tail, stepped_to, thread_pairs, thread_parts}
use Rattle.lfs_settle.specs.Laws.{NothingEndedStays}
use Rattle.lfs_settle.specs.Moved.{is_move, means, moved_entry, unmoved, without_at}
use Rattle.lfs_settle.specs.Reached.{begins_in, groups, named_within, reached_of, unreached_of}
use Rattle.lfs_settle.specs.Settled.{cleared, threaded}
use Rattle.lfs_settle.proofs.MovedEntry.{others_stay, with_entries}
use Rattle.lfs_settle.proofs.SettledThread.{AreDirectories, groups_directories, threaded_groups}
use Rattle.lfs_settle.proofs.ThreadParts.{held_alike}
use Rattle.lfs_settle.proofs.WholeThread.{whole_linked}

-- ---- no step

unstepped_by : (t : Bool) (p q : Pair) → same_blocks p q ≡ t → step_to p (if t then p else q) ≡ None → (if t then p else q) ≡ p
unstepped_by true p q is none = refl
unstepped_by false p q is none =
    let step : step_to p q ≡ Some (p, q) = ap (λ (b : Bool). if b then None else Some (p, q)) is in
    cc (step, none)

unstepped_to : (p : Pair) (o : Option Pair) → step_to p (stepped_to p o) ≡ None → stepped_to p o ≡ p
unstepped_to p None none = refl
unstepped_to p (Some q) none = unstepped_by (same_blocks p q) p q refl none

-- a tail without a step stays
tail_stays : (named : List Pair) (tail : Tail) → step_of named tail ≡ None → stepped_tail named tail ≡ tail
tail_stays named End none = refl
tail_stays named (Hard first second) none = refl
tail_stays named (Soft first second) none =
    ap soft_to (unstepped_to (first, second) (option_or (first_with named first) (first_with named second)) none)

part_stays : (named : List Pair) (s : StoredPart) → step_of named s.tail ≡ None → stepped_part named s ≡ s
part_stays named s none =
    ap (λ (t : Tail). record { entries = s.entries; tail = t; delta = s.delta }) (tail_stays named s.tail none)

none_of : {X : Type 0} (o : Option X) (xs : List X) → option_to_list o ++ xs ≡ [] → (o ≡ None) × (xs ≡ [])
none_of None xs none = (refl, none)
none_of (Some x) xs none = cc

first_stays : (named : List Pair) (p : Pair) (o : Option StoredPart) (rest : List PairPart)
    → steps_in named (option_to_list (option_map (λ s. (p, s)) o) ++ rest) ≡ []
    → (option_map (stepped_part named) o ≡ o) × (steps_in named rest ≡ [])
first_stays named p None rest none = (refl, none)
first_stays named p (Some s) rest none =
    let both = none_of (step_of named s.tail) (steps_in named rest) none in
    (ap (λ (x : StoredPart). Some x) (part_stays named s both.0), both.1)

all_stay : (named : List Pair) (r : Reading) (ps : List Pair) → steps_in named (parts_held r ps) ≡ [] → (q : Pair) → Contains ps q
    → option_map (stepped_part named) (r.part q) ≡ r.part q
all_stay named r [] none q there = absurd (contains_none q there)
all_stay named r (p ∷ ps) none q there =
    let both = first_stays named p (r.part p) (parts_held r ps) none in
    elim (contains_cases p ps q there) [
      | inl is ↦ subst (λ (x : Pair). option_map (stepped_part named) (r.part x) ≡ r.part x) (sym is) both.0
      | inr later ↦ all_stay named r ps both.1 q later
    ]

-- the thread in step is the thread
unstepped_parts : (r : Reading) → steps_of r ≡ [] → thread_parts r ≡ thread_parts (in_step r)
unstepped_parts r none =
    let s : Reading = in_step r in
    let agree : AgreeAt s r (thread_pairs s) = λ p there. sym (all_stay (pairs_named (thread_parts r)) r (thread_pairs s) none p there) in
    let pairs : thread_pairs r ≡ thread_pairs s =
    along_alike (next_pair s) (next_pair r) r.count [] r.count (Some root) (λ p there. ap tail_of (agree p there)) in
    ap (parts_held r) pairs ∙ held_alike s r (thread_pairs s) agree

-- ---- no move

missing_stays : (n : ℕ) (es : List StoredEntry) → slice_get es n ≡ None → without_at n es ≡ es
missing_stays n [] none = refl
missing_stays zero (e ∷ es) none = cc
missing_stays (suc n) (e ∷ es) none = ap (λ (xs : List StoredEntry). e ∷ xs) (missing_stays n es none)

-- an entry with its pair
abbrev with_pair : Pair → Option StoredEntry → Option (Pair × StoredEntry)
with_pair q o = option_map (λ e. (q, e)) o

none_paired : (q : Pair) (o : Option StoredEntry) → with_pair q o ≡ None → o ≡ None
none_paired q None none = refl
none_paired q (Some e) none = cc

unmoved_by : (t : Bool) (state : ℕ) (p : PairPart) → (is_move state && means state p.0) ≡ t
    → (if t then with_pair p.0 (slice_get p.1.entries (moved_entry state)) else None) ≡ None → unmoved state p ≡ p
unmoved_by false state p is none = others_stay state p is
unmoved_by true state p is none =
    ap (with_entries p)
    (ap (λ (b : Bool). if b then without_at (moved_entry state) p.1.entries else p.1.entries) is
    ∙ missing_stays (moved_entry state) p.1.entries
    (none_paired p.0 (slice_get p.1.entries (moved_entry state)) none))

neither : {X : Type 0} (a b : Option X) → option_or a b ≡ None → (a ≡ None) × (b ≡ None)
neither None b none = (refl, none)
neither (Some x) b none = cc

all_unmoved : (state : ℕ) (ps : List PairPart) → first_moved state ps ≡ None → map (unmoved state) ps ≡ ps
all_unmoved state [] none = refl
all_unmoved state (p ∷ ps) none =
    let both = neither (moved_in state p) (first_moved state ps) none in
    ap (λ (x : PairPart). x ∷ map (unmoved state) ps) (unmoved_by (is_move state && means state p.0) state p refl both.0)
    ∙ ap (λ (xs : List PairPart). p ∷ xs) (all_unmoved state ps both.1)

-- ---- no directory is dropped

undropped_by : (t : Bool) (p : PairPart) (ps : List PairPart) (left kept gs : List (List PairPart))
    → flat_map as_dropped (cond (not t) ((p ∷ ps) ∷ left) left) ≡ [] → (flat_map as_dropped left ≡ [] → kept ≡ gs)
    → cond t ((p ∷ ps) ∷ kept) kept ≡ (p ∷ ps) ∷ gs
undropped_by true p ps left kept gs none rest = ap (λ (xs : List (List PairPart)). (p ∷ ps) ∷ xs) (rest none)
undropped_by false p ps left kept gs none rest = cc

all_kept : (test : List PairPart → Bool) (gs : List (List PairPart)) → AreDirectories gs
    → flat_map as_dropped (filter (λ g. not (test g)) gs) ≡ [] → filter test gs ≡ gs
all_kept test [] all none = refl
all_kept test ([] ∷ gs) all none = absurd all.0
all_kept test ((p ∷ ps) ∷ gs) all none =
    undropped_by (test (p ∷ ps)) p ps (filter (λ (g : List PairPart). not (test g)) gs) (filter test gs) gs none (all_kept test gs all.1)

-- ---- the law

pub nothing_ended_stays : NothingEndedStays
nothing_ended_stays r whole moved dropped steps =
    let ps : List PairPart = thread_parts (in_step r) in
    let same : map (unmoved (delta_from ps)) ps ≡ ps = all_unmoved (delta_from ps) ps moved in
    let linked = (whole_linked (in_step r) whole).linked in
    let kept : reached_of (groups ps) ≡ groups ps =
    all_kept (begins_in (named_within (groups ps) (length (groups ps)))) (groups ps) (groups_directories ps linked)
    (subst (λ (xs : List PairPart). flat_map as_dropped (unreached_of (groups xs)) ≡ []) same dropped) in
    ap (λ (xs : List PairPart). cleared (threaded (reached_of (groups xs)))) same
    ∙ ap (λ (gs : List (List PairPart)). cleared (threaded gs)) kept
    ∙ ap cleared (threaded_groups ps linked ∙ sym (unstepped_parts r steps))
