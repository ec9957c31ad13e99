-- What holds of the pairs and the deltas of a volume's parts holds of those that a command of a row leaves.
use Rattle.std.proofs.Common.{◌≡◌, ℕ, Bool, true, false, List, [], ◌∷◌, ◌++◌, map, refl, ap, sym, subst, Option, Some, None}
use Rattle.std.specs.Prelude.{All, Contains, if◌then◌else◌}
use Rattle.std.proofs.lemmas.List.Elements.{All-append, All-cons, All-contains, All-head, All-nil, All-tail}
use Rattle.lfs_meta.specs.Attribute.{Attributes, set_attribute}
use Rattle.lfs_meta.specs.Body.{Pair}
use Rattle.lfs_meta.specs.Name.{Name}
use Rattle.lfs_meta.specs.Runs.{later_runs}
use Rattle.lfs_fs.specs.Directory.{Directory, Part, begins_at, parts, thread}
use Rattle.lfs_fs.specs.Entry.{Body, Directory_at, Entry}
use Rattle.lfs_fs.specs.Tree.{entry_at}
use Rattle.lfs_fs.specs.Volume.{Volume}
use Rattle.lfs_fs.proofs.ContainsLemmas.{contains_first, contains_later}
use Rattle.lfs_command.specs.Clean.{cleaned}
use Rattle.lfs_command.specs.Command.{Command, Grow, Mkdir, Mv, Put, Rm, RmAttr, SetAttr}
use Rattle.lfs_command.specs.Cut.{cut, more_parts, new_pairs, runs}
use Rattle.lfs_command.specs.DirectoryEdit.{behind, change_in, each_part, has_greater, has_name, link_in, link_parts, touch, touch_last, touch_last_of}
use Rattle.lfs_command.specs.Edited.{edited, empty_directory, make_directory, new_entry, put_file, set_attributes, with_body, with_entry_attributes}
use Rattle.lfs_command.specs.EntryEdit.{changed, place}
use Rattle.lfs_command.specs.Parent.{parent_of}
use Rattle.lfs_command.specs.Supplies.{Supplies, new_body}
use Rattle.lfs_command.specs.ThreadEdit.{add_after, change, in_directory, link, touch_first}
use Rattle.lfs_law.proofs.Cuts.{All-left, All-right, cut_part, cut_thread, head_by, tail_by}
use Rattle.lfs_law.proofs.PartsFit.{all_flat}
use Rattle.lfs_pack.specs.Unwritten.{IsOfRow}

-- of a part
abbrev pub Known : (Pair → ℕ → Type 0) → Part → Type 0
Known Q p = Q p.pair p.delta

-- the pairs of parts with their deltas
abbrev stamps : List Part → List (Pair × ℕ)
stamps = map (λ (p : Part). (p.pair, p.delta))

abbrev Stamped : (Pair → ℕ → Type 0) → Pair × ℕ → Type 0
Stamped Q s = Q s.0 s.1

to_stamps : (Q : Pair → ℕ → Type 0) (ps : List Part) → All (Known Q) ps → All (Stamped Q) (stamps ps)
to_stamps Q [] all = All-nil (Stamped Q)
to_stamps Q (p ∷ ps) all =
    All-cons (Stamped Q) (p.pair, p.delta) (stamps ps) (All-head (Known Q) p ps all) (to_stamps Q ps (All-tail (Known Q) p ps all))

from_stamps : (Q : Pair → ℕ → Type 0) (ps : List Part) → All (Stamped Q) (stamps ps) → All (Known Q) ps
from_stamps Q [] all = All-nil (Known Q)
from_stamps Q (p ∷ ps) all =
    All-cons (Known Q) p ps (All-head (Stamped Q) (p.pair, p.delta) (stamps ps) all)
    (from_stamps Q ps (All-tail (Stamped Q) (p.pair, p.delta) (stamps ps) all))

by_stamps : (Q : Pair → ℕ → Type 0) (ps qs : List Part) → stamps qs ≡ stamps ps → All (Known Q) ps → All (Known Q) qs
by_stamps Q ps qs same all = from_stamps Q qs (subst (All (Stamped Q)) (sym same) (to_stamps Q ps all))

-- ---- edits of directories

-- a directory keeps them
abbrev KeepsStamps : (Directory → Directory) → Type 0
KeepsStamps f = (d : Directory) → stamps (parts (f d)) ≡ stamps (parts d)

parts_link : (e : Entry) (p : Part) (ps : List Part) → stamps (parts (link_parts e p ps)) ≡ stamps (p ∷ ps)
unfolding link_parts
parts_link e p [] = refl
parts_link e p (q ∷ ps) = by (has_greater e.name p) (parts_link e q ps)
  where
    by : (t : Bool) → stamps (parts (link_parts e q ps)) ≡ stamps (q ∷ ps)
        → stamps (parts (if t then record { first = touch true (place e) p; more = q ∷ ps } else behind p (link_parts e q ps)))
        ≡ stamps (p ∷ q ∷ ps)
    by true rest = refl
    by false rest = ap (λ (l : List (Pair × ℕ)). (p.pair, p.delta) ∷ l) rest

parts_last : (p : Part) (ps : List Part) → stamps (parts (touch_last_of p ps)) ≡ stamps (p ∷ ps)
unfolding touch_last_of
parts_last p [] = refl
parts_last p (q ∷ ps) = ap (λ (l : List (Pair × ℕ)). (p.pair, p.delta) ∷ l) (parts_last q ps)

parts_changed : (n : Name) (f : Entry → Entry) (ps : List Part)
    → stamps (map (λ (p : Part). touch (has_name n p) (changed n f) p) ps) ≡ stamps ps
parts_changed n f [] = refl
parts_changed n f (p ∷ ps) = ap (λ (l : List (Pair × ℕ)). (p.pair, p.delta) ∷ l) (parts_changed n f ps)

parts_cleaned : (ps : List Part) → stamps (map cleaned ps) ≡ stamps ps
parts_cleaned [] = refl
parts_cleaned (p ∷ ps) = ap (λ (l : List (Pair × ℕ)). (p.pair, p.delta) ∷ l) (parts_cleaned ps)

map_known : (Q : Pair → ℕ → Type 0) (f : Directory → Directory) → KeepsStamps f → (ds : List Directory) → All (Known Q) (thread ds)
    → All (Known Q) (thread (map f ds))
map_known Q f keeps [] all = all
map_known Q f keeps (d ∷ ds) all =
    All-append (Known Q) (parts (f d)) (thread (map f ds))
    (by_stamps Q (parts d) (parts (f d)) (keeps d) (All-left (Known Q) (parts d) (thread ds) all))
    (map_known Q f keeps ds (All-right (Known Q) (parts d) (thread ds) all))

where_keeps : (k : Pair) (f : Directory → Directory) → KeepsStamps f → KeepsStamps (λ d. if begins_at k d then f d else d)
where_keeps k f keeps d = by (begins_at k d)
  where
    by : (t : Bool) → stamps (parts (if t then f d else d)) ≡ stamps (parts d)
    by true = keeps d
    by false = refl

in_known : (Q : Pair → ℕ → Type 0) (k : Pair) (f : Directory → Directory) → KeepsStamps f → (ds : List Directory) → All (Known Q) (thread ds)
    → All (Known Q) (thread (in_directory k f ds))
in_known Q k f keeps ds all = map_known Q (λ d. if begins_at k d then f d else d) (where_keeps k f keeps) ds all

link_known : (Q : Pair → ℕ → Type 0) (k : Pair) (e : Entry) (ds : List Directory) → All (Known Q) (thread ds)
    → All (Known Q) (thread (link k e ds))
link_known Q k e ds all = in_known Q k (link_in e) (λ d. parts_link e d.first d.more) ds all

change_known : (Q : Pair → ℕ → Type 0) (k : Pair) (n : Name) (f : Entry → Entry) (ds : List Directory) → All (Known Q) (thread ds)
    → All (Known Q) (thread (change k n f ds))
change_known Q k n f ds all = in_known Q k (change_in n f) (λ d. parts_changed n f (parts d)) ds all

add_known : (Q : Pair → ℕ → Type 0) (k : Pair) (new : Directory) (ds : List Directory) → All (Known Q) (parts new) → All (Known Q) (thread ds)
    → All (Known Q) (thread (add_after k new ds))
unfolding add_after
add_known Q k new [] fresh all = all
add_known Q k new (d ∷ ds) fresh all = by (begins_at k d) (add_known Q k new ds fresh rest)
  where
    here : All (Known Q) (parts d)
    here = All-left (Known Q) (parts d) (thread ds) all

    rest : All (Known Q) (thread ds)
    rest = All-right (Known Q) (parts d) (thread ds) all

    by : (t : Bool) → All (Known Q) (thread (add_after k new ds))
        → All (Known Q) (thread (if t then touch_last d ∷ new ∷ ds else d ∷ add_after k new ds))
    by true later =
        All-append (Known Q) (parts (touch_last d)) (thread (new ∷ ds))
        (by_stamps Q (parts d) (parts (touch_last d)) (parts_last d.first d.more) here)
        (All-append (Known Q) (parts new) (thread ds) fresh rest)
    by false later = All-append (Known Q) (parts d) (thread (add_after k new ds)) here later

first_known : (Q : Pair → ℕ → Type 0) (ds : List Directory) → All (Known Q) (thread ds) → All (Known Q) (thread (touch_first ds))
first_known Q [] all = all
first_known Q (d ∷ ds) all =
    let first : Part = record { pair = d.first.pair; entries = d.first.entries; delta = d.first.delta; dirty = true } in
    All-cons (Known Q) first (d.more ++ thread ds) (All-head (Known Q) d.first (d.more ++ thread ds) all)
    (All-tail (Known Q) d.first (d.more ++ thread ds) all)

-- ---- the commands

set_known : (Q : Pair → ℕ → Type 0) (v : Volume) (f : Attributes → Attributes) (h : Option (Pair × Name)) → All (Known Q) (thread v.directories)
    → All (Known Q) (thread (set_attributes v f h).directories)
set_known Q v f None all = first_known Q v.directories all
set_known Q v f (Some h) all = change_known Q h.0 h.1 (with_entry_attributes f) v.directories all

make_known : (Q : Pair → ℕ → Type 0) (v : Volume) (pair : Pair) (h : Option (Pair × Name)) → Q pair 0 → All (Known Q) (thread v.directories)
    → All (Known Q) (thread (make_directory v pair h).directories)
make_known Q v pair None new all = all
make_known Q v pair (Some h) new all =
    add_known Q h.0 (empty_directory pair) (link h.0 (new_entry h.1 (Directory_at pair)) v.directories)
    (All-cons (Known Q) (empty_directory pair).first [] new (All-nil (Known Q)))
    (link_known Q h.0 (new_entry h.1 (Directory_at pair)) v.directories all)

put_known : (Q : Pair → ℕ → Type 0) (v : Volume) (body : Body) (h : Option (Pair × Name)) (old : Option Entry)
    → All (Known Q) (thread v.directories) → All (Known Q) (thread (put_file v body h old).directories)
put_known Q v body None old all = all
put_known Q v body (Some h) None all = link_known Q h.0 (new_entry h.1 body) v.directories all
put_known Q v body (Some h) (Some e) all = change_known Q h.0 h.1 (with_body body) v.directories all

-- so it is of a new directory's pair, without a delta
abbrev pub OfNewPair : (Pair → ℕ → Type 0) → Command → Supplies → Type 0
OfNewPair Q (Mkdir p) s = Q s.pair 0
OfNewPair Q _ s = Unit {0}

edited_known : (Q : Pair → ℕ → Type 0) (v : Volume) (c : Command) (s : Supplies) → IsOfRow c → OfNewPair Q c s
    → All (Known Q) (thread v.directories) → All (Known Q) (thread (edited v c s).directories)
edited_known Q v (Mkdir p) s row new all = make_known Q v s.pair (parent_of v p) new all
edited_known Q v (Put p bytes most) s row new all = put_known Q v (new_body v s bytes most) (parent_of v p) (entry_at v p) all
edited_known Q v (Rm p) s row new all = absurd row
edited_known Q v (Mv p q) s row new all = absurd row
edited_known Q v (SetAttr p k value) s row new all = set_known Q v (set_attribute k value) (parent_of v p) all
edited_known Q v (RmAttr p k) s row new all = absurd row
edited_known Q v (Grow n) s row new all = absurd row

-- ---- parts that are cut

more_known : (Q : Pair → ℕ → Type 0) (pairs : List Pair) (rs : List (List Entry)) → ((q : Pair) → Contains pairs q → Q q 0)
    → All (Known Q) (more_parts pairs rs)
more_known Q pairs [] each = All-nil (Known Q)
more_known Q [] (run ∷ rs) each = All-nil (Known Q)
more_known Q (pair ∷ pairs) (run ∷ rs) each =
    All-cons (Known Q) (record { pair = pair; entries = run; delta = 0; dirty = true }) (more_parts pairs rs) (each pair (contains_first pair pairs))
    (more_known Q pairs rs (λ q there. each q (contains_later pair pairs q there)))

part_known : (Q : Pair → ℕ → Type 0) (chosen : Part → List Pair) (w : Volume) (p : Part) (t : Bool) → Known Q p
    → ((q : Pair) → Contains (if t then chosen p else []) q → Q q 0) → All (Known Q) (head_by w p t ∷ tail_by chosen w p t)
part_known Q chosen w p true known each =
    All-cons (Known Q) (head_by w p true) (tail_by chosen w p true) known (more_known Q (chosen p) (later_runs (runs w p)) each)
part_known Q chosen w p false known each = All-cons (Known Q) p [] known (All-nil (Known Q))

cut_known : (Q : Pair → ℕ → Type 0) (chosen : Part → List Pair) (w : Volume)
    → ((p : Part) → Contains (thread w.directories) p → (q : Pair) → Contains (new_pairs chosen p) q → Q q 0)
    → ((p : Part) → Contains (thread w.directories) p → Known Q p) → All (Known Q) (thread (cut chosen w).directories)
cut_known Q chosen w each known =
    subst (All (Known Q)) (sym (cut_thread chosen w w.directories))
    (all_flat (Known Q) (cut_part chosen w) (thread w.directories)
    (λ p there. part_known Q chosen w p p.dirty (known p there) (each p there)))

-- ---- all of it

pub left_known : (Q : Pair → ℕ → Type 0) (v : Volume) (c : Command) (s : Supplies) (chosen : Part → List Pair) → IsOfRow c → OfNewPair Q c s
    → ((p : Part) → Contains (thread (edited v c s).directories) p → (q : Pair) → Contains (new_pairs chosen p) q → Q q 0)
    → All (Known Q) (thread v.directories) → All (Known Q) (thread (map (each_part cleaned) (cut chosen (edited v c s)).directories))
left_known Q v c s chosen row new each all =
    map_known Q (each_part cleaned) (λ d. parts_cleaned (parts d)) (cut chosen (edited v c s)).directories
    (cut_known Q chosen (edited v c s) each
    (λ p there. All-contains (Known Q) (thread (edited v c s).directories) p (edited_known Q v c s row new all) there))
