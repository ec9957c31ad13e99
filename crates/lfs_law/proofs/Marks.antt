-- How many parts an edit marks.
use Rattle.std.proofs.Common.{◌≡◌, ℕ, ◌+◌, ◌≤◌, Bool, true, false, List, [], ◌∷◌, ◌++◌, refl, ap, arith, map, Option, Some, None}
use Rattle.std.specs.Prelude.{cond, ◌||◌, if◌then◌else◌, sum_by, count_by, find}
use Rattle.std.specs.List.{list_any, filter}
use Rattle.std.proofs.lemmas.List.Sums.{sum_by-cons, sum_by-append}
use Rattle.lfs_meta.specs.Name.{Name}
use Rattle.lfs_meta.specs.Body.{Pair}
use Rattle.lfs_fs.specs.declared.limits.Limits.{Limits}
use Rattle.lfs_fs.specs.NameOrder.{precedes, NamesAreOrdered}
use Rattle.lfs_fs.specs.Entry.{Entry, is_named}
use Rattle.lfs_fs.specs.Directory.{Part, Directory, parts, entries, begins_at, thread}
use Rattle.lfs_fs.specs.State.{delta_of}
use Rattle.lfs_fs.specs.Sound.{Rise}
use Rattle.lfs_fs.proofs.OrderedEndLemmas.{none_counted}
use Rattle.lfs_command.specs.EntryEdit.{place, without, changed}
use Rattle.lfs_command.specs.DirectoryEdit.{touch, has_name, unlink_in, change_in, behind, link_parts, link_in, touch_last_of, touch_last}
use Rattle.lfs_command.specs.DirectoryEdit.{absorb_in, absorb, taking_up, drop_later, has_only}
use Rattle.lfs_command.specs.ThreadEdit.{in_directory, link, unlink, change, add_after, take_out, drop_directory, touch_first}
use Rattle.lfs_law.proofs.Effect.{AreGood}
use Rattle.lfs_law.proofs.OneElement.{count_cases, found_one, found_has, sum_where}
use Rattle.lfs_law.proofs.EntryEdits.{once_named}
use Rattle.lfs_law.proofs.DirectoryEdits.{entries_of, only_has, sum_dropped, dropped}

-- how many of these parts are marked
abbrev pub marks : List Part → ℕ
marks = count_by (λ p. p.dirty)

marks_cons : (p : Part) (ps : List Part) → marks (p ∷ ps) ≡ cond p.dirty 1 0 + marks ps
marks_cons p ps = count_cases (λ (p : Part). p.dirty) p ps

-- a part set, or not
mark_touched : (old set : Bool) → cond {A = ℕ} (old || set) 1 0 ≤ cond old 1 0 + cond set 1 0
mark_touched true set = omega arith
mark_touched false set = omega arith

-- ---- in a directory

marks_link_parts : (e : Entry) (p : Part) (ps : List Part) → marks (parts (link_parts e p ps)) ≤ marks (p ∷ ps) + 1
unfolding link_parts
marks_link_parts e p [] = omega (arith, mark_touched p.dirty true, marks_cons p [], marks_cons (touch true (place e) p) [])
marks_link_parts e p (q ∷ ps) = go (list_any (λ f. precedes e.name f.name) p.entries) (marks_link_parts e q ps)
  where
    go : (b : Bool) → marks (parts (link_parts e q ps)) ≤ marks (q ∷ ps) + 1
        → marks (parts (if b then record { first = touch true (place e) p; more = q ∷ ps } else behind p (link_parts e q ps)))
        ≤ marks (p ∷ q ∷ ps) + 1
    go true later = omega (arith, mark_touched p.dirty true, marks_cons p (q ∷ ps), marks_cons (touch true (place e) p) (q ∷ ps))
    go false later = omega (arith, marks_cons p (q ∷ ps), marks_cons p (parts (link_parts e q ps)))

marks_touch_last_of : (p : Part) (ps : List Part) → marks (parts (touch_last_of p ps)) ≤ marks (p ∷ ps) + 1
unfolding touch_last_of
marks_touch_last_of p [] = omega (arith, mark_touched p.dirty true, marks_cons p [], marks_cons (touch true (λ es. es) p) [])
marks_touch_last_of p (q ∷ ps) = omega (arith, marks_touch_last_of q ps, marks_cons p (q ∷ ps), marks_cons p (parts (touch_last_of q ps)))

marks_absorb_in : (delta : ℕ) (p : Part) (ps : List Part) → marks (parts (absorb_in delta p ps)) ≤ marks (p ∷ ps) + 1
unfolding absorb_in
marks_absorb_in delta p [] = omega (arith, marks_cons p [])
marks_absorb_in delta p (q ∷ ps) = omega (
  arith,
  marks_absorb_in delta q ps,
  marks_cons p (q ∷ ps),
  marks_cons p (parts (absorb_in delta q ps)),
)

-- where each part is set that has a name
marks_each : (set : Part → Bool) (f : List Entry → List Entry) (ps : List Part)
    → marks (map (λ p. touch (set p) f p) ps) ≤ marks ps + count_by set ps
marks_each set f [] = omega arith
marks_each set f (p ∷ ps) =
    omega (
      arith,
      marks_each set f ps,
      mark_touched p.dirty (set p),
      marks_cons p ps,
      marks_cons (touch (set p) f p) (map (λ q. touch (set q) f q) ps),
      count_cases set p ps,
    )

-- a list that has a name has an entry of it
has_one : (n : Name) (es : List Entry) → cond {A = ℕ} (list_any (is_named n) es) 1 0 ≤ count_by (is_named n) es
has_one n [] = omega arith
has_one n (e ∷ es) = grind (arith, has_one n es, count_cases (is_named n) e es)

parts_with_name : (n : Name) (ps : List Part) → count_by (has_name n) ps ≤ count_by (is_named n) (entries_of ps)
parts_with_name n [] = omega arith
parts_with_name n (p ∷ ps) =
    omega (
      arith,
      parts_with_name n ps,
      has_one n p.entries,
      count_cases (has_name n) p ps,
      sum_by-append (λ (e : Entry). cond {A = ℕ} (is_named n e) 1 0) p.entries (entries_of ps),
    )

-- where names rise, one entry at most has a name
pub named_once : (n : Name) (es : List Entry) → NamesAreOrdered → Rise es → count_by (is_named n) es ≤ 1
named_once n es ordered rise = go (find (is_named n) es) refl
  where
    go : (o : Option Entry) → find (is_named n) es ≡ o → count_by (is_named n) es ≤ 1
    go None is = omega (arith, none_counted (is_named n) es is)
    go (Some e) is = omega (arith, once_named n es e ordered rise is)

-- a part that is taken out gives its mark to the one before it
marks_dropped : (goes : Part → Bool) (p : Part) (ps : List Part) → marks (parts (drop_later goes p ps)) ≤ marks (p ∷ ps) + count_by goes ps
unfolding drop_later
marks_dropped goes p [] = omega arith
marks_dropped goes p (q ∷ ps) = go (goes q) refl (marks_dropped goes (taking_up q.delta p) ps) (marks_dropped goes q ps)
  where
    go : (b : Bool) → goes q ≡ b
        → marks (parts (drop_later goes (taking_up q.delta p) ps)) ≤ marks (taking_up q.delta p ∷ ps) + count_by goes ps
        → marks (parts (drop_later goes q ps)) ≤ marks (q ∷ ps) + count_by goes ps
        → marks (parts (if b then drop_later goes (taking_up q.delta p) ps else behind p (drop_later goes q ps)))
        ≤ marks (p ∷ q ∷ ps) + count_by goes (q ∷ ps)
    go true is gone later = omega (
      arith,
      gone,
      marks_cons (taking_up q.delta p) ps,
      marks_cons p (q ∷ ps),
      marks_cons q ps,
      count_cases goes q ps,
      ap (λ (t : Bool). cond {A = ℕ} t 1 0) is,
    )
    go false is gone later = omega (
      arith,
      later,
      marks_cons p (parts (drop_later goes q ps)),
      marks_cons p (q ∷ ps),
      count_cases goes q ps,
      ap (λ (t : Bool). cond {A = ℕ} t 1 0) is,
    )

-- parts that have nothing but a name have it
only_taken : (n : Name) (ps : List Part) → count_by (has_only n) ps ≤ count_by (has_name n) (filter (has_only n) ps)
only_taken n [] = omega arith
only_taken n (p ∷ ps) = by (has_only n p) refl (only_taken n ps)
  where
    by : (t : Bool) → has_only n p ≡ t → count_by (has_only n) ps ≤ count_by (has_name n) (filter (has_only n) ps)
        → count_by (has_only n) (p ∷ ps) ≤ count_by (has_name n) (if t then p ∷ filter (has_only n) ps else filter (has_only n) ps)
    by true is later = omega (
      arith,
      later,
      count_cases (has_only n) p ps,
      count_cases (has_name n) p (filter (has_only n) ps),
      ap (λ (t : Bool). cond {A = ℕ} t 1 0) is,
      ap (λ (t : Bool). cond {A = ℕ} t 1 0) (only_has n p is),
    )
    by false is later = omega (arith, later, count_cases (has_only n) p ps, ap (λ (t : Bool). cond {A = ℕ} t 1 0) is)

-- the parts with a name: those that are left, and those that are taken out
names_left : (n : Name) (d : Directory)
    → count_by (has_name n) (parts (dropped n d)) + count_by (has_only n) d.more ≤ count_by (has_name n) (parts d)
names_left n d = omega (
  arith,
  sum_dropped (λ (p : Part). cond {A = ℕ} (has_name n p) 1 0) (λ delta p. refl) (has_only n) d.first d.more,
  only_taken n d.more,
)

pub marks_unlink_in : (n : Name) (d : Directory) → NamesAreOrdered → Rise (entries d) → marks (parts (unlink_in n d)) ≤ marks (parts d) + 1
marks_unlink_in n d ordered rise = omega (
  arith,
  marks_each (has_name n) (without n) (parts (dropped n d)),
  marks_dropped (has_only n) d.first d.more,
  names_left n d,
  parts_with_name n (parts d),
  named_once n (entries d) ordered rise,
)

pub marks_change_in : (n : Name) (f : Entry → Entry) (d : Directory) → NamesAreOrdered → Rise (entries d)
    → marks (parts (change_in n f d)) ≤ marks (parts d) + 1
marks_change_in n f d ordered rise = omega (
  arith,
  marks_each (has_name n) (changed n f) (parts d),
  parts_with_name n (parts d),
  named_once n (entries d) ordered rise,
)

pub marks_link_in : (e : Entry) (d : Directory) → marks (parts (link_in e d)) ≤ marks (parts d) + 1
marks_link_in e d = marks_link_parts e d.first d.more

pub marks_touch_last : (d : Directory) → marks (parts (touch_last d)) ≤ marks (parts d) + 1
marks_touch_last d = marks_touch_last_of d.first d.more

pub marks_absorb : (d gone : Directory) → marks (parts (absorb d gone)) ≤ marks (parts d) + 1
marks_absorb d gone = marks_absorb_in (delta_of (parts gone)) d.first d.more

-- ---- in a volume

abbrev marks_of : Directory → ℕ
marks_of d = marks (parts d)

marks_thread : (ds : List Directory) → marks (thread ds) ≡ sum_by marks_of ds
marks_thread [] = refl
marks_thread (d ∷ ds) = omega (
  arith,
  marks_thread ds,
  sum_by-append (λ (p : Part). cond {A = ℕ} p.dirty 1 0) (parts d) (thread ds),
  sum_by-cons marks_of d ds,
)

-- in one directory
marks_in : (k : Pair) (f : Directory → Directory) (ds : List Directory) (d : Directory) → find (begins_at k) ds ≡ Some d
    → count_by (begins_at k) ds ≡ 1 → marks (parts (f d)) ≤ marks (parts d) + 1
    → marks (thread (in_directory k f ds)) ≤ marks (thread ds) + 1
marks_in k f ds d found once one = omega (
  arith,
  one,
  marks_thread ds,
  marks_thread (in_directory k f ds),
  sum_where marks_of (begins_at k) f ds d found once,
)

pub marks_link : (k : Pair) (e : Entry) (ds : List Directory) → count_by (begins_at k) ds ≡ 1
    → marks (thread (link k e ds)) ≤ marks (thread ds) + 1
marks_link k e ds once = let found = found_one (begins_at k) ds once in
    marks_in k (link_in e) ds found.0 found.1 once (marks_link_in e found.0)

pub marks_unlink : (limits : Limits) (k : Pair) (n : Name) (ds : List Directory) → NamesAreOrdered → AreGood limits ds
    → count_by (begins_at k) ds ≡ 1
    → marks (thread (unlink k n ds)) ≤ marks (thread ds) + 1
marks_unlink limits k n ds ordered good once =
    let found = found_one (begins_at k) ds once in
    marks_in k (unlink_in n) ds found.0 found.1 once (marks_unlink_in n found.0 ordered
    (found_has (λ (d : Directory). Rise (entries d)) (begins_at k) ds found.0 found.1 good.order))

pub marks_change : (limits : Limits) (k : Pair) (n : Name) (f : Entry → Entry) (ds : List Directory) → NamesAreOrdered → AreGood limits ds
    → count_by (begins_at k) ds ≡ 1
    → marks (thread (change k n f ds)) ≤ marks (thread ds) + 1
marks_change limits k n f ds ordered good once =
    let found = found_one (begins_at k) ds once in
    marks_in k (change_in n f) ds found.0 found.1 once (marks_change_in n f found.0 ordered
    (found_has (λ (d : Directory). Rise (entries d)) (begins_at k) ds found.0 found.1 good.order))

marks_added : (k : Pair) (new : Directory) (ds : List Directory) → sum_by marks_of (add_after k new ds)
    ≤ sum_by marks_of ds + 1 + marks (parts new)
unfolding add_after
marks_added k new [] = omega arith
marks_added k new (d ∷ ds) = go (begins_at k d) (marks_added k new ds)
  where
    go : (b : Bool) → sum_by marks_of (add_after k new ds) ≤ sum_by marks_of ds + 1 + marks (parts new)
        → sum_by marks_of (if b then touch_last d ∷ new ∷ ds else d ∷ add_after k new ds) ≤ sum_by marks_of (d ∷ ds) + 1 + marks (parts new)
    go true later = omega (
      arith,
      marks_touch_last d,
      sum_by-cons marks_of (touch_last d) (new ∷ ds),
      sum_by-cons marks_of new ds,
      sum_by-cons marks_of d ds,
    )
    go false later = omega (arith, sum_by-cons marks_of d (add_after k new ds), sum_by-cons marks_of d ds)

-- one, and those of the new directory
pub marks_add_after : (k : Pair) (new : Directory) (ds : List Directory)
    → marks (thread (add_after k new ds)) ≤ marks (thread ds) + 1 + marks (parts new)
marks_add_after k new ds = omega (arith, marks_added k new ds, marks_thread ds, marks_thread (add_after k new ds))

marks_taken : (k : Pair) (d : Directory) (ds : List Directory) → sum_by marks_of (take_out k d ds) ≤ sum_by marks_of (d ∷ ds) + 1
unfolding take_out
marks_taken k d [] = omega arith
marks_taken k d (e ∷ ds) = go (begins_at k e) (marks_taken k e ds)
  where
    go : (b : Bool) → sum_by marks_of (take_out k e ds) ≤ sum_by marks_of (e ∷ ds) + 1
        → sum_by marks_of (if b then absorb d e ∷ ds else d ∷ take_out k e ds) ≤ sum_by marks_of (d ∷ e ∷ ds) + 1
    go true later = omega (
      arith,
      marks_absorb d e,
      sum_by-cons marks_of (absorb d e) ds,
      sum_by-cons marks_of e ds,
      sum_by-cons marks_of d (e ∷ ds),
    )
    go false later = omega (arith, sum_by-cons marks_of d (take_out k e ds), sum_by-cons marks_of d (e ∷ ds))

pub marks_drop : (k : Pair) (ds : List Directory) → marks (thread (drop_directory k ds)) ≤ marks (thread ds) + 1
marks_drop k [] = omega arith
marks_drop k (d ∷ ds) = omega (arith, marks_taken k d ds, marks_thread (d ∷ ds), marks_thread (take_out k d ds))

pub marks_touch_first : (ds : List Directory) → marks (thread (touch_first ds)) ≤ marks (thread ds) + 1
marks_touch_first [] = omega arith
marks_touch_first (d ∷ ds) = omega (
  arith,
  marks_cons d.first (d.more ++ thread ds),
  marks_cons (record {
    pair = d.first.pair;
    entries = d.first.entries;
    delta =
        d.first.delta;
    dirty = true;
  }) (d.more ++ thread ds),
)
