-- An accepted command sets a part whose pair the volume has.
use Rattle.std.proofs.Common.{suc, zero, ◌≡◌, ◌⊎◌, ℕ, ◌+◌, ◌≤◌, ◌&&◌, ◌||◌, not, Bool, true, false, cond, List, [], ◌∷◌, ◌++◌, refl, ap}
use Rattle.std.proofs.Common.{sym, ◌∙◌, subst, arith, map, inl, inr, Option, Some, None}
use Rattle.std.specs.Prelude.{All, if◌then◌else◌, sum_by, count_by, find, is_none}
use Rattle.std.specs.List.{list_any}
use Rattle.std.specs.Option.{option_map}
use Rattle.std.proofs.lemmas.Bool.Decides.{nat_tests}
use Rattle.std.proofs.lemmas.List.Elements.{All-nil, All-cons, All-head, All-tail}
use Rattle.std.proofs.lemmas.List.Sums.{sum_by-cons, sum_by-append, length-filter}
use Rattle.std.proofs.lemmas.Bool.{or_parts}
use Rattle.std.proofs.Math.Bool.{or-true}
use Rattle.lfs_meta.specs.Name.{Name, IsName}
use Rattle.lfs_meta.specs.Attribute.{Attributes, set_attribute, remove_attribute}
use Rattle.lfs_meta.specs.Body.{Pair}
use Rattle.lfs_fs.specs.NameOrder.{NamesAreOrdered, precedes}
use Rattle.lfs_fs.specs.Path.{Path}
use Rattle.lfs_fs.specs.Entry.{Body, Directory_at, Entry, is_named, target}
use Rattle.lfs_fs.specs.Directory.{Part, Directory, parts, entries, begins_at, thread}
use Rattle.lfs_fs.specs.Volume.{Volume}
use Rattle.lfs_fs.specs.Tree.{entry_in, entry_at, tree}
use Rattle.lfs_fs.specs.State.{delta_of}
use Rattle.lfs_fs.specs.Uses.{uses}
use Rattle.lfs_fs.specs.Sound.{IsSound, StartsAtRoot}
use Rattle.lfs_command.specs.EntryEdit.{place, without, changed}
use Rattle.lfs_command.specs.DirectoryEdit.{touch, has_name, unlink_in, change_in, behind, link_parts, link_in, touch_last_of, touch_last}
use Rattle.lfs_command.specs.DirectoryEdit.{absorb_in, absorb, taking_up, drop_later, has_only}
use Rattle.lfs_command.specs.ThreadEdit.{in_directory, link, unlink, change, add_after, take_out, drop_directory, touch_first}
use Rattle.lfs_command.specs.Command.{Command, Mkdir, Put, Rm, Mv, SetAttr, RmAttr, Grow}
use Rattle.lfs_command.specs.Supplies.{Supplies, new_body}
use Rattle.lfs_command.specs.Parent.{parent_of}
use Rattle.lfs_command.specs.Edited.{with_body, with_entry_attributes, renamed, new_entry, empty_directory, set_attributes, make_directory}
use Rattle.lfs_command.specs.Edited.{put_file, drop_target, remove_entry, move_entry, edited}
use Rattle.lfs_command.specs.Accepted.{IsAccepted}
use Rattle.lfs_command.specs.Need.{is_new_to}
use Rattle.lfs_law.specs.CommandsSet.{CommandsSetAPart}
use Rattle.lfs_command.specs.declared.refusal.Refusal.TheVariants.{IsRoot, NotFound, IntoItself}
use Rattle.lfs_command.specs.Verdict.{refuse_if, walk_refusal, is_root, lies_below}
use Rattle.lfs_law.proofs.CommandsFollow.{is_there}
use Rattle.lfs_law.proofs.DirectoryEdits.{entries_of, pairs, first_link, pairs_unlink, keeps_unlink, first_change}
use Rattle.lfs_law.proofs.EdgeEdits.{sound_is_good}
use Rattle.lfs_law.proofs.EntriesThere.{stands_at_parent}
use Rattle.lfs_law.proofs.FewParts.{parent_once, count_thread}
use Rattle.lfs_law.proofs.Found.{found_le, found_passes}
use Rattle.lfs_law.proofs.Parents.{first_passes, test_passes}
use Rattle.lfs_law.proofs.InDirectory.{KeepsAllFirst, find_here}
use Rattle.lfs_law.proofs.LinksAdded.{first_used}
use Rattle.lfs_law.proofs.OnePath.{entry_found}
use Rattle.lfs_law.proofs.OneElement.{found_one, found_has, count_cases}
use Rattle.lfs_law.proofs.Placed.{is_placed}
use Rattle.lfs_law.proofs.ThreadEdits.{unlink_effect}
use Rattle.lfs_law.proofs.WrittenLemmas.{part_uses, sum_thread}

-- ---- parts that are set, of old pairs

-- a part that is set and whose pair is old
abbrev set_old : (Pair → Bool) → Part → Bool
set_old old p = p.dirty && old p.pair

abbrev count : (Pair → Bool) → List Part → ℕ
count old ps = count_by (set_old old) ps

-- old pairs
abbrev AreOld : (Pair → Bool) → List Pair → Type 0
AreOld old = All (λ q. old q ≡ true)

-- directories of old pairs
abbrev HaveOld : (Pair → Bool) → List Directory → Type 0
HaveOld old = All (λ d. AreOld old (pairs (parts d)))

both_by : (a b : Bool) → a ≡ true → b ≡ true → cond {A = ℕ} (a && b) 1 0 ≡ 1
both_by true true x y = refl
both_by true false x y = cc
both_by false b x y = cc

cons_count : (old : Pair → Bool) (p : Part) (ps : List Part) → count old (p ∷ ps) ≡ cond (set_old old p) 1 0 + count old ps
cons_count old p ps = count_cases (set_old old) p ps

-- the first part is set
first_set : (old : Pair → Bool) (p : Part) (ps : List Part) → p.dirty ≡ true → old p.pair ≡ true → 1 ≤ count old (p ∷ ps)
first_set old p ps set is = omega (arith, cons_count old p ps, both_by p.dirty (old p.pair) set is)

-- ---- in a directory

link_sets : (old : Pair → Bool) (e : Entry) (p : Part) (ps : List Part) → AreOld old (pairs (p ∷ ps))
    → 1 ≤ count old (parts (link_parts e p ps))
unfolding link_parts
link_sets old e p [] olds = first_set old (touch true (place e) p) [] (or-true p.dirty) (All-head (λ q. old q ≡ true) p.pair [] olds)
link_sets old e p (q ∷ ps) olds = go (list_any (λ f. precedes e.name f.name) p.entries)
    (link_sets old e q ps (All-tail (λ x. old x ≡ true) p.pair (pairs (q ∷ ps)) olds))
  where
    go : (b : Bool) → 1 ≤ count old (parts (link_parts e q ps))
        → 1 ≤ count old (parts (if b then record { first = touch true (place e) p; more = q ∷ ps } else behind p (link_parts e q ps)))
    go true later = first_set old (touch true (place e) p) (q ∷ ps) (or-true p.dirty)
        (All-head (λ x. old x ≡ true) p.pair (pairs (q ∷ ps)) olds)
    go false later = omega (arith, later, cons_count old p (parts (link_parts e q ps)))

absorb_sets : (old : Pair → Bool) (delta : ℕ) (p : Part) (ps : List Part) → AreOld old (pairs (p ∷ ps))
    → 1 ≤ count old (parts (absorb_in delta p ps))
unfolding absorb_in
absorb_sets old delta p [] olds = first_set old (taking_up delta p) [] refl (All-head (λ q. old q ≡ true) p.pair [] olds)
absorb_sets old delta p (q ∷ ps) olds =
    omega (
      arith,
      absorb_sets old delta q ps (All-tail (λ x. old x ≡ true) p.pair (pairs (q ∷ ps)) olds),
      cons_count old p (parts (absorb_in delta q ps)),
    )

more_by : (a b : Bool) → cond {A = ℕ} (a && b) 1 0 ≤ cond {A = ℕ} ((a || true) && b) 1 0
more_by true b = omega arith
more_by false b = omega arith

last_keeps : (old : Pair → Bool) (p : Part) (ps : List Part) → count old (p ∷ ps) ≤ count old (parts (touch_last_of p ps))
unfolding touch_last_of
last_keeps old p [] = omega (arith, more_by p.dirty (old p.pair), cons_count old p [], cons_count old (touch true (λ es. es) p) [])
last_keeps old p (q ∷ ps) = omega (arith, last_keeps old q ps, cons_count old p (q ∷ ps), cons_count old p (parts (touch_last_of q ps)))

-- a list has an entry of a name, or none is counted
named_or_none : (n : Name) (es : List Entry) → (list_any (is_named n) es ≡ true) ⊎ (count_by (is_named n) es ≡ 0)
named_or_none n [] = inr refl
named_or_none n (e ∷ es) = by (is_named n e) refl (named_or_none n es)
  where
    by : (t : Bool) → is_named n e ≡ t → (list_any (is_named n) es ≡ true) ⊎ (count_by (is_named n) es ≡ 0)
        → (list_any (is_named n) (e ∷ es) ≡ true) ⊎ (count_by (is_named n) (e ∷ es) ≡ 0)
    by true is later = inl (rw is refl)
    by false is later = elim later [ inl t ↦ inl (rw is t) | inr t ↦ inr (grind (arith, t, count_cases (is_named n) e es)) ]

each_sets : (old : Pair → Bool) (n : Name) (f : List Entry → List Entry) (ps : List Part) → AreOld old (pairs ps)
    → 1 ≤ count_by (is_named n) (entries_of ps)
    → 1 ≤ count old (map (λ p. touch (has_name n p) f p) ps)
each_sets old n f [] olds there = absurd (omega (arith, there))
each_sets old n f (p ∷ ps) olds there = elim (named_or_none n p.entries) [
  | inl is ↦ first_set old (touch (has_name n p) f p) (map (λ q. touch (has_name n q) f q) ps)
      (ap (λ (t : Bool). p.dirty || t) is ∙ or-true p.dirty)
      (All-head (λ x. old x ≡ true) p.pair (pairs ps) olds)
  | inr none ↦
      (let split = sum_by-append (λ (e : Entry). cond {A = ℕ} (is_named n e) 1 0) p.entries (entries_of ps) in
      let later = each_sets old n f ps (All-tail (λ x. old x ≡ true) p.pair (pairs ps) olds) (omega (arith, there, none, split)) in
      omega (arith, later, cons_count old (touch (has_name n p) f p) (map (λ q. touch (has_name n q) f q) ps)))
]

-- ---- where later parts are taken out

old_dropped : (old : Pair → Bool) (goes : Part → Bool) (p : Part) (ps : List Part) → AreOld old (pairs (p ∷ ps))
    → AreOld old (pairs (parts (drop_later goes p ps)))
unfolding drop_later
old_dropped old goes p [] olds = olds
old_dropped old goes p (q ∷ ps) olds = go (goes q) (old_dropped old goes (taking_up q.delta p) ps gone) (old_dropped old goes q ps rest)
  where
    first : old p.pair ≡ true
    first = All-head (λ x. old x ≡ true) p.pair (pairs (q ∷ ps)) olds

    rest : AreOld old (pairs (q ∷ ps))
    rest = All-tail (λ x. old x ≡ true) p.pair (pairs (q ∷ ps)) olds

    gone : AreOld old (pairs (taking_up q.delta p ∷ ps))
    gone = All-cons (λ x. old x ≡ true) p.pair (pairs ps) first (All-tail (λ x. old x ≡ true) q.pair (pairs ps) rest)

    go : (b : Bool) → AreOld old (pairs (parts (drop_later goes (taking_up q.delta p) ps)))
        → AreOld old (pairs (parts (drop_later goes q ps)))
        → AreOld old (pairs (parts (if b then drop_later goes (taking_up q.delta p) ps else behind p (drop_later goes q ps))))
    go true without_it later = without_it
    go false without_it later = All-cons (λ x. old x ≡ true) p.pair (pairs (parts (drop_later goes q ps))) first later

old_unlinked : (old : Pair → Bool) (n : Name) (d : Directory) → AreOld old (pairs (parts d)) → AreOld old (pairs (parts (unlink_in n d)))
old_unlinked old n d olds = subst (AreOld old) (sym (pairs_unlink n d)) (old_dropped old (has_only n) d.first d.more olds)

-- a part without the name, or with its entries less it
abbrev left : Name → Part → Part
left n p = touch (has_name n p) (without n) p

-- the part that has the name is set, or the one before it if it goes
drop_sets : (old : Pair → Bool) (n : Name) (p : Part) (ps : List Part) → AreOld old (pairs (p ∷ ps))
    → (p.dirty ≡ true) ⊎ (1 ≤ count_by (is_named n) (entries_of (p ∷ ps)))
    → 1 ≤ count old (map (left n) (parts (drop_later (has_only n) p ps)))
unfolding drop_later
drop_sets old n p [] olds some = elim some [
  | inl set ↦ first_set old (left n p) [] (ap (λ (t : Bool). t || has_name n p) set) (All-head (λ q. old q ≡ true) p.pair [] olds)
  | inr there ↦ each_sets old n (without n) (p ∷ []) olds there
]
drop_sets old n p (q ∷ ps) olds some = go (has_only n q) (drop_sets old n (taking_up q.delta p) ps gone (inl refl)) (drop_sets old n q ps rest)
  where
    first : old p.pair ≡ true
    first = All-head (λ x. old x ≡ true) p.pair (pairs (q ∷ ps)) olds

    rest : AreOld old (pairs (q ∷ ps))
    rest = All-tail (λ x. old x ≡ true) p.pair (pairs (q ∷ ps)) olds

    gone : AreOld old (pairs (taking_up q.delta p ∷ ps))
    gone = All-cons (λ x. old x ≡ true) p.pair (pairs ps) first (All-tail (λ x. old x ≡ true) q.pair (pairs ps) rest)

    go : (b : Bool) → 1 ≤ count old (map (left n) (parts (drop_later (has_only n) (taking_up q.delta p) ps)))
        → ((q.dirty ≡ true) ⊎ (1 ≤ count_by (is_named n) (entries_of (q ∷ ps)))
        → 1 ≤ count old (map (left n) (parts (drop_later (has_only n) q ps))))
        → 1 ≤ count old (map (left n) (parts (if b then drop_later (has_only n) (taking_up q.delta p) ps
        else behind p (drop_later (has_only n) q ps))))
    go true without_it later = without_it
    go false without_it later = elim some [
      | inl set ↦ first_set old (left n p) (map (left n) (parts (drop_later (has_only n) q ps)))
          (ap (λ (t : Bool). t || has_name n p) set) first
      | inr there ↦ elim (named_or_none n p.entries) [
        | inl is ↦ first_set old (left n p) (map (left n) (parts (drop_later (has_only n) q ps)))
            (ap (λ (t : Bool). p.dirty || t) is ∙ or-true p.dirty) first
        | inr none ↦
            (let split = sum_by-append (λ (e : Entry). cond {A = ℕ} (is_named n e) 1 0) p.entries (entries_of (q ∷ ps)) in
            omega (
              arith,
              later (inr (omega (arith, there, none, split))),
              cons_count old (left n p) (map (left n) (parts (drop_later (has_only n) q ps))),
            ))
      ]
    ]

-- ---- in a volume

in_sets : (old : Pair → Bool) (k : Pair) (f : Directory → Directory) (ds : List Directory) (d : Directory) → KeepsAllFirst f
    → find (begins_at k) ds ≡ Some d → 1 ≤ count old (parts (f d))
    → 1 ≤ count old (thread (in_directory k f ds))
in_sets old k f ds d keeps found one =
    let le : count old (parts (f d)) ≤ sum_by (λ (x : Directory). count old (parts x)) (in_directory k f ds) =
    found_le (λ (x : Directory). count old (parts x)) (begins_at k) (in_directory k f ds) (f d)
    (find_here k f ds keeps ∙ ap (option_map f) found) in
    omega (arith, one, le, count_thread (set_old old) (in_directory k f ds))

old_in : (old : Pair → Bool) (k : Pair) (f : Directory → Directory) (ds : List Directory)
    → ((d : Directory) → AreOld old (pairs (parts d)) → AreOld old (pairs (parts (f d)))) → HaveOld old ds
    → HaveOld old (in_directory k f ds)
old_in old k f [] keeps olds = olds
old_in old k f (d ∷ ds) keeps olds =
    All-cons (λ (x : Directory). AreOld old (pairs (parts x))) (if begins_at k d then f d else d) (in_directory k f ds)
    (by (begins_at k d) (All-head (λ (x : Directory). AreOld old (pairs (parts x))) d ds olds))
    (old_in old k f ds keeps (All-tail (λ (x : Directory). AreOld old (pairs (parts x))) d ds olds))
  where
    by : (t : Bool) → AreOld old (pairs (parts d)) → AreOld old (pairs (parts (if t then f d else d)))
    by true here = keeps d here
    by false here = here

old_found : (old : Pair → Bool) (k : Pair) (ds : List Directory) (d : Directory) → HaveOld old ds → find (begins_at k) ds ≡ Some d
    → AreOld old (pairs (parts d))
old_found old k ds d olds found = found_has (λ (x : Directory). AreOld old (pairs (parts x))) (begins_at k) ds d found olds

link_one : (old : Pair → Bool) (k : Pair) (e : Entry) (ds : List Directory) → HaveOld old ds → count_by (begins_at k) ds ≡ 1
    → 1 ≤ count old (thread (link k e ds))
link_one old k e ds olds once =
    let found = found_one (begins_at k) ds once in
    in_sets old k (link_in e) ds found.0 (first_link e) found.1 (link_sets old e found.0.first found.0.more
    (old_found old k ds found.0 olds found.1))

counted : (n : Name) (es : List Entry) (e : Entry) → find (is_named n) es ≡ Some e → 1 ≤ count_by (is_named n) es
counted n es e found =
    let one : cond {A = ℕ} (is_named n e) 1 0 ≡ 1 = ap (λ (t : Bool). cond {A = ℕ} t 1 0) (found_passes (is_named n) es e found) in
    omega (arith, one, found_le (λ (x : Entry). cond {A = ℕ} (is_named n x) 1 0) (is_named n) es e found)

change_one : (old : Pair → Bool) (k : Pair) (n : Name) (f : Entry → Entry) (ds : List Directory) (e : Entry) → HaveOld old ds
    → entry_in ds k n ≡ Some e → 1 ≤ count old (thread (change k n f ds))
change_one old k n f ds e olds there =
    let found = entry_found ds k n e there in
    in_sets old k (change_in n f) ds found.0 (first_change n f) found.1
    (each_sets old n (changed n f) (parts found.0) (old_found old k ds found.0 olds found.1) (counted n (entries found.0) e found.2))

unlink_one : (old : Pair → Bool) (k : Pair) (n : Name) (ds : List Directory) (e : Entry) → HaveOld old ds → entry_in ds k n ≡ Some e
    → 1 ≤ count old (thread (unlink k n ds))
unlink_one old k n ds e olds there =
    let found = entry_found ds k n e there in
    in_sets old k (unlink_in n) ds found.0 (keeps_unlink n) found.1
    (drop_sets old n found.0.first found.0.more (old_found old k ds found.0 olds found.1) (inr (counted n (entries found.0) e found.2)))

abbrev count_of : (Pair → Bool) → Directory → ℕ
count_of old d = count old (parts d)

add_keeps : (old : Pair → Bool) (k : Pair) (new : Directory) (ds : List Directory)
    → sum_by (count_of old) ds ≤ sum_by (count_of old) (add_after k new ds)
unfolding add_after
add_keeps old k new [] = omega arith
add_keeps old k new (d ∷ ds) = go (begins_at k d) (add_keeps old k new ds)
  where
    go : (b : Bool) → sum_by (count_of old) ds ≤ sum_by (count_of old) (add_after k new ds)
        → sum_by (count_of old) (d ∷ ds) ≤ sum_by (count_of old) (if b then touch_last d ∷ new ∷ ds else d ∷ add_after k new ds)
    go true later = omega (
      arith,
      last_keeps old d.first d.more,
      sum_by-cons (count_of old) (touch_last d) (new ∷ ds),
      sum_by-cons (count_of old) new ds,
      sum_by-cons (count_of old) d ds,
    )
    go false later = omega (arith, later, sum_by-cons (count_of old) d (add_after k new ds), sum_by-cons (count_of old) d ds)

take_keeps : (old : Pair → Bool) (k : Pair) (d : Directory) (ds : List Directory) → HaveOld old (d ∷ ds)
    → 1 ≤ sum_by (count_of old) (d ∷ ds) → 1 ≤ sum_by (count_of old) (take_out k d ds)
unfolding take_out
take_keeps old k d [] olds some = some
take_keeps old k d (e ∷ ds) olds some = go (begins_at k e) (take_keeps old k e ds
    (All-tail (λ (x : Directory). AreOld old (pairs (parts x))) d (e ∷ ds) olds))
  where
    go : (b : Bool) → (1 ≤ sum_by (count_of old) (e ∷ ds) → 1 ≤ sum_by (count_of old) (take_out k e ds))
        → 1 ≤ sum_by (count_of old) (if b then absorb d e ∷ ds else d ∷ take_out k e ds)
    go true later =
        omega (
          arith,
          absorb_sets old (delta_of (parts e)) d.first d.more
              (All-head (λ (x : Directory). AreOld old (pairs (parts x))) d (e ∷ ds) olds),
          sum_by-cons (count_of old) (absorb d e) ds,
        )
    go false later = by (count_of old d) refl
      where
        by : (n : ℕ) → count_of old d ≡ n → 1 ≤ sum_by (count_of old) (d ∷ take_out k e ds)
        by zero is = omega (
          arith,
          later (omega (arith, some, is, sum_by-cons (count_of old) d (e ∷ ds))),
          sum_by-cons (count_of old) d (take_out k e ds),
        )
        by (suc n) is = omega (arith, is, sum_by-cons (count_of old) d (take_out k e ds))

drop_keeps : (old : Pair → Bool) (k : Pair) (ds : List Directory) → HaveOld old ds → 1 ≤ count old (thread ds)
    → 1 ≤ count old (thread (drop_directory k ds))
drop_keeps old k [] olds some = some
drop_keeps old k (d ∷ ds) olds some =
    omega (
      arith,
      take_keeps old k d ds olds (omega (arith, some, count_thread (set_old old) (d ∷ ds))),
      count_thread (set_old old) (take_out k d ds),
    )

drop_target_keeps : (old : Pair → Bool) (k : Option Pair) (ds : List Directory) → HaveOld old ds → 1 ≤ count old (thread ds)
    → 1 ≤ count old (thread (drop_target k ds))
drop_target_keeps old None ds olds some = some
drop_target_keeps old (Some j) ds olds some = drop_keeps old j ds olds some

touch_first_sets : (old : Pair → Bool) (ds : List Directory) → StartsAtRoot ds → HaveOld old ds → 1 ≤ count old (thread (touch_first ds))
touch_first_sets old [] starts olds = absurd starts
touch_first_sets old (d ∷ ds) starts olds =
    first_set old (record { pair = d.first.pair; entries = d.first.entries; delta = d.first.delta; dirty = true })
    (d.more ++ thread ds) refl
    (All-head (λ x. old x ≡ true) d.first.pair (pairs d.more) (All-head (λ (x : Directory). AreOld old (pairs (parts x))) d ds olds))

-- ---- the pairs of a volume are old

abbrev old_to : Volume → Pair → Bool
old_to v q = not (is_new_to v q)

old_parts : (v : Volume) (ps : List Part) → ((b : ℕ) → sum_by (part_uses b) ps ≤ uses b v) → AreOld (old_to v) (pairs ps)
old_parts v [] within = All-nil (λ q. old_to v q ≡ true)
old_parts v (p ∷ ps) within =
    All-cons (λ q. old_to v q ≡ true) p.pair (pairs ps)
    (let some : 1 ≤ uses p.pair.0 v = omega (arith, within p.pair.0, sum_by-cons (part_uses p.pair.0) p ps, first_used p.pair) in
    grind (arith, nat_tests))
    (old_parts v ps (λ b. omega (arith, within b, sum_by-cons (part_uses b) p ps)))

old_directories : (v : Volume) (ds : List Directory) → ((b : ℕ) → sum_by (part_uses b) (thread ds) ≤ uses b v) → HaveOld (old_to v) ds
old_directories v [] within = All-nil (λ (x : Directory). AreOld (old_to v) (pairs (parts x)))
old_directories v (d ∷ ds) within =
    All-cons (λ (x : Directory). AreOld (old_to v) (pairs (parts x))) d ds
    (old_parts v (parts d) (λ b. omega (arith, within b, sum_by-append (part_uses b) (parts d) (thread ds))))
    (old_directories v ds (λ b. omega (arith, within b, sum_by-append (part_uses b) (parts d) (thread ds))))

have_old : (v : Volume) → HaveOld (old_to v) v.directories
have_old v = old_directories v v.directories (λ b. omega (arith, sum_thread b v.directories))

-- ---- the commands

abbrev sets : Volume → Volume → Type 0
sets v w = 1 ≤ count (old_to v) (thread w.directories)

attributes_set : (v : Volume) (p : Path) (f : Attributes → Attributes) → IsSound v → is_none (tree v p) ≡ false → (h : Option (Pair × Name))
    → parent_of v p ≡ h → sets v (set_attributes v f h)
attributes_set v p f sound some None is = touch_first_sets (old_to v) v.directories sound.starts (have_old v)
attributes_set v p f sound some (Some h) is =
    let e = is_there v p some in
    change_one (old_to v) h.0 h.1 (with_entry_attributes f) v.directories e.0 (have_old v) (sym (stands_at_parent v p h.0 h.1 is) ∙ e.1)

file_put : (v : Volume) (p : Path) (body : Body) → IsSound v → (h : Pair × Name) → parent_of v p ≡ Some h → (old : Option Entry)
    → entry_at v p ≡ old → sets v (put_file v body (Some h) old)
file_put v p body sound h is None there = link_one (old_to v) h.0 (new_entry h.1 body) v.directories (have_old v) (parent_once v p h sound is)
file_put v p body sound h is (Some e) there = change_one (old_to v) h.0 h.1 (with_body body) v.directories e (have_old v)
    (sym (stands_at_parent v p h.0 h.1 is) ∙ there)

directory_made : (v : Volume) (p : Path) (pair : Pair) → IsSound v → (h : Pair × Name) → parent_of v p ≡ Some h
    → sets v (make_directory v pair (Some h))
directory_made v p pair sound h is =
    let linked : List Directory = link h.0 (new_entry h.1 (Directory_at pair)) v.directories in
    omega (
      arith,
      link_one (old_to v) h.0 (new_entry h.1 (Directory_at pair)) v.directories (have_old v) (parent_once v p h sound is),
      count_thread (set_old (old_to v)) linked,
      count_thread (set_old (old_to v)) (add_after h.0 (empty_directory pair) linked),
      add_keeps (old_to v) h.0 (empty_directory pair) linked,
    )

entry_removed : (v : Volume) (p : Path) (h : Pair × Name) → parent_of v p ≡ Some h → (e : Entry) → entry_at v p ≡ Some e
    → sets v (remove_entry v (Some h) (Some e))
entry_removed v p h is e there =
    drop_target_keeps (old_to v) (target e) (unlink h.0 h.1 v.directories)
    (old_in (old_to v) h.0 (unlink_in h.1) v.directories (old_unlinked (old_to v) h.1) (have_old v))
    (unlink_one (old_to v) h.0 h.1 v.directories e (have_old v) (sym (stands_at_parent v p h.0 h.1 is) ∙ there))

entry_moved : (v : Volume) (p q : Path) → NamesAreOrdered → IsSound v → (h g : Pair × Name) → parent_of v p ≡ Some h → parent_of v q ≡ Some g
    → (e : Entry) → entry_at v p ≡ Some e
    → sets v (move_entry v (Some h) (Some g) (Some e))
entry_moved v p q ordered sound h g is goes e there =
    let ds : List Directory = unlink h.0 h.1 v.directories in
    let effect = unlink_effect v.limits h.0 h.1 e v.directories ordered (sound_is_good v sound) (parent_once v p h sound is)
    (sym (stands_at_parent v p h.0 h.1 is) ∙ there) in
    link_one (old_to v) g.0 (renamed g.1 e) ds (old_in (old_to v) h.0 (unlink_in h.1) v.directories (old_unlinked (old_to v) h.1) (have_old v))
    (omega (arith, parent_once v q g sound goes, effect.directories g.0))

some_set : NamesAreOrdered → (v : Volume) (c : Command) (s : Supplies) → IsAccepted v c s → sets v (edited v c s)
some_set ordered v (Mkdir p) s ok =
    let below = first_passes (refuse_if (is_root p) IsRoot) _ ok.unrefused in
    let walk = first_passes (walk_refusal (tree v) [] p) _ below.1 in
    let at = is_placed v p ok.sound (All-head (All IsName) p [] ok.names) (test_passes (is_root p) IsRoot below.0) walk.0 in
    subst (λ (o : Option (Pair × Name)). sets v (make_directory v s.pair o)) (sym at.parent.parent)
    (directory_made v p s.pair ok.sound (at.parent.pair, at.parent.name) at.parent.parent)
some_set ordered v (Put p bytes most) s ok =
    let below = first_passes (refuse_if (is_root p) IsRoot) _ ok.unrefused in
    let walk = first_passes (walk_refusal (tree v) [] p) _ below.1 in
    let at = is_placed v p ok.sound (All-head (All IsName) p [] ok.names) (test_passes (is_root p) IsRoot below.0) walk.0 in
    subst (λ (o : Option (Pair × Name)). sets v (put_file v (new_body v s bytes most) o (entry_at v p))) (sym at.parent.parent)
    (file_put v p (new_body v s bytes most) ok.sound (at.parent.pair, at.parent.name) at.parent.parent (entry_at v p) refl)
some_set ordered v (Rm p) s ok =
    let below = first_passes (refuse_if (is_root p) IsRoot) _ ok.unrefused in
    let walk = first_passes (walk_refusal (tree v) [] p) _ below.1 in
    let there = first_passes (refuse_if (is_none (tree v p)) NotFound) _ walk.1 in
    let at = is_placed v p ok.sound (All-head (All IsName) p [] ok.names) (test_passes (is_root p) IsRoot below.0) walk.0 in
    let e = is_there v p (test_passes (is_none (tree v p)) NotFound there.0) in
    subst (λ (o : Option Entry). sets v (remove_entry v (parent_of v p) o)) (sym e.1)
    (subst (λ (o : Option (Pair × Name)). sets v (remove_entry v o (Some e.0))) (sym at.parent.parent)
    (entry_removed v p (at.parent.pair, at.parent.name) at.parent.parent e.0 e.1))
some_set ordered v (Mv p q) s ok =
    let below = first_passes (refuse_if (is_root p || is_root q) IsRoot) _ ok.unrefused in
    let from_walk = first_passes (walk_refusal (tree v) [] p) _ below.1 in
    let there = first_passes (refuse_if (is_none (tree v p)) NotFound) _ from_walk.1 in
    let off = first_passes (refuse_if (lies_below p q) IntoItself) _ there.1 in
    let to_walk = first_passes (walk_refusal (tree v) [] q) _ off.1 in
    let roots = or_parts (is_root p) (is_root q) (test_passes (is_root p || is_root q) IsRoot below.0) in
    let from = is_placed v p ok.sound (All-head (All IsName) p (q ∷ []) ok.names) roots.0 from_walk.0 in
    let to = is_placed v q ok.sound (All-head (All IsName) q [] (All-tail (All IsName) p (q ∷ []) ok.names)) roots.1 to_walk.0 in
    let e = is_there v p (test_passes (is_none (tree v p)) NotFound there.0) in
    subst (λ (o : Option Entry). sets v (move_entry v (parent_of v p) (parent_of v q) o)) (sym e.1)
    (subst (λ (o : Option (Pair × Name)). sets v (move_entry v o (parent_of v q) (Some e.0))) (sym from.parent.parent)
    (subst (λ (o : Option (Pair × Name)). sets v (move_entry v (Some (from.parent.pair, from.parent.name)) o (Some e.0))) (sym to.parent.parent)
    (entry_moved v p q ordered ok.sound (from.parent.pair, from.parent.name) (to.parent.pair, to.parent.name) from.parent.parent to.parent.parent e.0 e.1)))
some_set ordered v (SetAttr p k value) s ok =
    let walk = first_passes (walk_refusal (tree v) [] p) _ ok.unrefused in
    let there = first_passes (refuse_if (is_none (tree v p)) NotFound) _ walk.1 in
    attributes_set v p (set_attribute k value) ok.sound (test_passes (is_none (tree v p)) NotFound there.0) (parent_of v p) refl
some_set ordered v (RmAttr p k) s ok =
    let walk = first_passes (walk_refusal (tree v) [] p) _ ok.unrefused in
    let there = first_passes (refuse_if (is_none (tree v p)) NotFound) _ walk.1 in
    attributes_set v p (remove_attribute k) ok.sound (test_passes (is_none (tree v p)) NotFound there.0) (parent_of v p) refl
some_set ordered v (Grow n) s ok = touch_first_sets (old_to v) v.directories ok.sound.starts (have_old v)

pub commands_set_a_part : NamesAreOrdered → CommandsSetAPart
commands_set_a_part ordered v c s ok =
    omega (arith, some_set ordered v c s ok, length-filter (set_old (old_to v)) (thread (edited v c s).directories))
