-- What holds of the bodies of a volume's entries holds of those that a command leaves.
use Rattle.std.proofs.Common.{◌≡◌, Bool, true, false, List, [], ◌∷◌, refl, ap, sym, ◌∙◌, subst, inl, inr, Option, Some, None}
use Rattle.std.specs.Prelude.{All, Contains, not, if◌then◌else◌}
use Rattle.std.proofs.lemmas.Option.{same_Some}
use Rattle.std.proofs.lemmas.List.Elements.{All-nil, All-cons, All-head, All-tail, All-append, All-filter, All-contains}
use Rattle.lfs_meta.specs.Name.{Name}
use Rattle.lfs_meta.specs.Attribute.{Attributes, set_attribute, remove_attribute}
use Rattle.lfs_meta.specs.Body.{Pair}
use Rattle.lfs_meta.specs.RunLaws.{RunsJoin}
use Rattle.lfs_fs.specs.Path.{Path}
use Rattle.lfs_fs.specs.Pair.{root}
use Rattle.lfs_fs.specs.Entry.{Body, Directory_at, Entry, target, is_named}
use Rattle.lfs_fs.specs.Directory.{Part, Directory, parts, entries, begins_at, thread}
use Rattle.lfs_fs.specs.Volume.{Volume}
use Rattle.lfs_fs.specs.Tree.{entry_in, entry_at, top}
use Rattle.lfs_fs.specs.Thread.{Link, links}
use Rattle.lfs_fs.proofs.EntryAtLemmas.{step_some}
use Rattle.lfs_command.specs.DirectoryEdit.{link_in, unlink_in, change_in, touch_last, absorb}
use Rattle.lfs_command.specs.ThreadEdit.{link, unlink, change, add_after, take_out, drop_directory, touch_first}
use Rattle.lfs_command.specs.Command.{Command, Mkdir, Put, Rm, Mv, SetAttr, RmAttr, Grow}
use Rattle.lfs_command.specs.Supplies.{Supplies, new_body}
use Rattle.lfs_command.specs.Parent.{parent_of}
use Rattle.lfs_command.specs.Edited.{with_body, with_entry_attributes, renamed, new_entry, empty_directory, set_attributes, make_directory}
use Rattle.lfs_command.specs.Edited.{put_file, drop_target, remove_entry, move_entry, edited}
use Rattle.lfs_command.specs.Cut.{cut, HasEnough}
use Rattle.lfs_law.proofs.Cuts.{All-left, All-right, enough_each, cut_all_entries}
use Rattle.lfs_law.proofs.DirectoryEdits.{entries_of, entries_link, entries_unlink, entries_change, entries_touch_last, entries_absorb}
use Rattle.lfs_law.proofs.EntryEdits.{All-place}
use Rattle.lfs_law.proofs.OneElement.{All-where, found_has}
use Rattle.lfs_law.proofs.OnePath.{entry_found}
use Rattle.lfs_law.proofs.Walks.{last_name, walk-snoc}
use Rattle.lfs_law.proofs.WrittenLemmas.{part_there}

-- what holds of the body of each entry
abbrev pub OfBodies : (Body → Type 0) → List Entry → Type 0
OfBodies P es = All (λ e. P e.body) es

-- of each directory
abbrev pub Bodies : (Body → Type 0) → List Directory → Type 0
Bodies P ds = All (λ d. OfBodies P (entries d)) ds

-- ---- edits of directories

link_bodies : (P : Body → Type 0) (k : Pair) (e : Entry) (ds : List Directory) → P e.body → Bodies P ds → Bodies P (link k e ds)
link_bodies P k e ds new all =
    All-where (λ (d : Directory). OfBodies P (entries d)) (begins_at k) (link_in e) ds
    (λ d is old. subst (OfBodies P) (sym (entries_link e d)) (All-place (λ x. P x.body) e (entries d) new old)) all

unlink_bodies : (P : Body → Type 0) (k : Pair) (n : Name) (ds : List Directory) → Bodies P ds → Bodies P (unlink k n ds)
unlink_bodies P k n ds all =
    All-where (λ (d : Directory). OfBodies P (entries d)) (begins_at k) (unlink_in n) ds
    (λ d is old. subst (OfBodies P) (sym (entries_unlink n d)) (All-filter (λ e. not (is_named n e)) (λ e. P e.body) (entries d) old)) all

change_bodies : (P : Body → Type 0) (k : Pair) (n : Name) (f : Entry → Entry) (ds : List Directory)
    → ((e : Entry) → P e.body → P (f e).body) → Bodies P ds → Bodies P (change k n f ds)
change_bodies P k n f ds keeps all =
    All-where (λ (d : Directory). OfBodies P (entries d)) (begins_at k) (change_in n f) ds
    (λ d is old. subst (OfBodies P) (sym (entries_change n f d)) (All-where (λ (e : Entry). P e.body) (is_named n) f (entries d)
    (λ e named has. keeps e has) old)) all

add_bodies : (P : Body → Type 0) (k : Pair) (new : Directory) (ds : List Directory) → OfBodies P (entries new) → Bodies P ds
    → Bodies P (add_after k new ds)
unfolding add_after
add_bodies P k new [] fresh all = all
add_bodies P k new (d ∷ ds) fresh all = by (begins_at k d) (add_bodies P k new ds fresh
    (All-tail (λ (x : Directory). OfBodies P (entries x)) d ds all))
  where
    here : OfBodies P (entries d)
    here = All-head (λ (x : Directory). OfBodies P (entries x)) d ds all

    rest : Bodies P ds
    rest = All-tail (λ (x : Directory). OfBodies P (entries x)) d ds all

    by : (t : Bool) → Bodies P (add_after k new ds) → Bodies P (if t then touch_last d ∷ new ∷ ds else d ∷ add_after k new ds)
    by true later =
        All-cons (λ (x : Directory). OfBodies P (entries x)) (touch_last d) (new ∷ ds)
        (subst (OfBodies P) (sym (entries_touch_last d)) here)
        (All-cons (λ (x : Directory). OfBodies P (entries x)) new ds fresh rest)
    by false later = All-cons (λ (x : Directory). OfBodies P (entries x)) d (add_after k new ds) here later

take_bodies : (P : Body → Type 0) (k : Pair) (d : Directory) (ds : List Directory) → OfBodies P (entries d) → Bodies P ds
    → Bodies P (take_out k d ds)
unfolding take_out
take_bodies P k d [] here all = All-cons (λ (x : Directory). OfBodies P (entries x)) d [] here all
take_bodies P k d (e ∷ ds) here all =
    by (begins_at k e) (take_bodies P k e ds (All-head (λ (x : Directory). OfBodies P (entries x)) e ds all)
    (All-tail (λ (x : Directory). OfBodies P (entries x)) e ds all))
  where
    by : (t : Bool) → Bodies P (take_out k e ds) → Bodies P (if t then absorb d e ∷ ds else d ∷ take_out k e ds)
    by true later =
        All-cons (λ (x : Directory). OfBodies P (entries x)) (absorb d e) ds (subst (OfBodies P) (sym (entries_absorb d e)) here)
        (All-tail (λ (x : Directory). OfBodies P (entries x)) e ds all)
    by false later = All-cons (λ (x : Directory). OfBodies P (entries x)) d (take_out k e ds) here later

drop_bodies : (P : Body → Type 0) (k : Pair) (ds : List Directory) → Bodies P ds → Bodies P (drop_directory k ds)
drop_bodies P k [] all = all
drop_bodies P k (d ∷ ds) all = take_bodies P k d ds (All-head (λ (x : Directory). OfBodies P (entries x)) d ds all)
    (All-tail (λ (x : Directory). OfBodies P (entries x)) d ds all)

touch_bodies : (P : Body → Type 0) (ds : List Directory) → Bodies P ds → Bodies P (touch_first ds)
touch_bodies P [] all = all
touch_bodies P (d ∷ ds) all =
    All-cons (λ (x : Directory). OfBodies P (entries x)) (record {
      first =
          record { pair = d.first.pair; entries = d.first.entries; delta = d.first.delta; dirty = true };
      more = d.more;
    }) ds
    (All-head (λ (x : Directory). OfBodies P (entries x)) d ds all) (All-tail (λ (x : Directory). OfBodies P (entries x)) d ds all)

-- ---- an entry of the volume

body_at : (P : Body → Type 0) (v : Volume) (p : Path) (e : Entry) → P (Directory_at root) → Bodies P v.directories → entry_at v p ≡ Some e
    → P e.body
body_at P v p e of_root all at = elim (last_name p) [
  | inl is ↦ subst (λ (x : Entry). P x.body) (same_Some (top v) e (ap (entry_at v) (sym is) ∙ at)) of_root
  | inr (q, n, is) ↦
      let step = step_some target (entry_in v.directories) n (entry_at v q) e
      (sym (walk-snoc target (entry_in v.directories) (Some (top v)) q n) ∙ ap (entry_at v) (sym is) ∙ at) in
      let found = entry_found v.directories step.1 n e step.4 in
      found_has (λ (x : Entry). P x.body) (is_named n) (entries found.0) e found.2
      (found_has (λ (d : Directory). OfBodies P (entries d)) (begins_at step.1) v.directories found.0 found.1 all)
]

-- ---- the commands

set_bodies : (P : Body → Type 0) (v : Volume) (f : Attributes → Attributes) (h : Option (Pair × Name)) → Bodies P v.directories
    → Bodies P (set_attributes v f h).directories
set_bodies P v f None all = touch_bodies P v.directories all
set_bodies P v f (Some h) all = change_bodies P h.0 h.1 (with_entry_attributes f) v.directories (λ e has. has) all

make_bodies : (P : Body → Type 0) (v : Volume) (pair : Pair) (h : Option (Pair × Name)) → P (Directory_at pair) → Bodies P v.directories
    → Bodies P (make_directory v pair h).directories
make_bodies P v pair None new all = all
make_bodies P v pair (Some h) new all =
    add_bodies P h.0 (empty_directory pair) (link h.0 (new_entry h.1 (Directory_at pair)) v.directories) (All-nil (λ (e : Entry). P e.body))
    (link_bodies P h.0 (new_entry h.1 (Directory_at pair)) v.directories new all)

put_bodies : (P : Body → Type 0) (v : Volume) (body : Body) (h : Option (Pair × Name)) (old : Option Entry) → P body
    → Bodies P v.directories → Bodies P (put_file v body h old).directories
put_bodies P v body None old new all = all
put_bodies P v body (Some h) None new all = link_bodies P h.0 (new_entry h.1 body) v.directories new all
put_bodies P v body (Some h) (Some e) new all = change_bodies P h.0 h.1 (with_body body) v.directories (λ x has. new) all

dropped_bodies : (P : Body → Type 0) (o : Option Pair) (ds : List Directory) → Bodies P ds → Bodies P (drop_target o ds)
dropped_bodies P None ds all = all
dropped_bodies P (Some k) ds all = drop_bodies P k ds all

remove_bodies : (P : Body → Type 0) (v : Volume) (h : Option (Pair × Name)) (old : Option Entry) → Bodies P v.directories
    → Bodies P (remove_entry v h old).directories
remove_bodies P v None old all = all
remove_bodies P v (Some h) None all = all
remove_bodies P v (Some h) (Some e) all = dropped_bodies P (target e) (unlink h.0 h.1 v.directories)
    (unlink_bodies P h.0 h.1 v.directories all)

move_bodies : (P : Body → Type 0) (v : Volume) (from to : Option (Pair × Name)) (old : Option Entry)
    → ((e : Entry) → old ≡ Some e → P e.body) → Bodies P v.directories
    → Bodies P (move_entry v from to old).directories
move_bodies P v None to old known all = all
move_bodies P v (Some h) None old known all = all
move_bodies P v (Some h) (Some k) None known all = all
move_bodies P v (Some h) (Some k) (Some e) known all =
    link_bodies P k.0 (renamed k.1 e) (unlink h.0 h.1 v.directories) (known e refl) (unlink_bodies P h.0 h.1 v.directories all)

-- the same of a file's new contents
abbrev pub OfNew : (Body → Type 0) → Volume → Command → Supplies → Type 0
OfNew P v (Mkdir p) s = Unit {0}
OfNew P v (Put p bytes most) s = P (new_body v s bytes most)
OfNew P v (Rm p) s = Unit {0}
OfNew P v (Mv p q) s = Unit {0}
OfNew P v (SetAttr p k value) s = Unit {0}
OfNew P v (RmAttr p k) s = Unit {0}
OfNew P v (Grow n) s = Unit {0}

pub edited_bodies : (P : Body → Type 0) (v : Volume) (c : Command) (s : Supplies) → ((pair : Pair) → P (Directory_at pair)) → OfNew P v c s
    → Bodies P v.directories
    → Bodies P (edited v c s).directories
edited_bodies P v (Mkdir p) s leads new all = make_bodies P v s.pair (parent_of v p) (leads s.pair) all
edited_bodies P v (Put p bytes most) s leads new all = put_bodies P v (new_body v s bytes most) (parent_of v p) (entry_at v p) new all
edited_bodies P v (Rm p) s leads new all = remove_bodies P v (parent_of v p) (entry_at v p) all
edited_bodies P v (Mv p q) s leads new all = move_bodies P v (parent_of v p) (parent_of v q) (entry_at v p)
    (λ e at. body_at P v p e (leads root) all at) all
edited_bodies P v (SetAttr p k value) s leads new all = set_bodies P v (set_attribute k value) (parent_of v p) all
edited_bodies P v (RmAttr p k) s leads new all = set_bodies P v (remove_attribute k) (parent_of v p) all
edited_bodies P v (Grow n) s leads new all = set_bodies P v (λ a. a) None all

pub cut_bodies : RunsJoin Entry → (P : Body → Type 0) (chosen : Part → List Pair) (w : Volume)
    → All (HasEnough chosen w) (thread w.directories) → Bodies P w.directories
    → Bodies P (cut chosen w).directories
cut_bodies join P chosen w enough all = cut_all_entries (OfBodies P) join chosen w w.directories
    (enough_each chosen w w.directories enough) all

-- ---- by parts, and by links

parts_bodies : (P : Body → Type 0) (ps : List Part) → OfBodies P (entries_of ps) → All (λ p. OfBodies P p.entries) ps
parts_bodies P [] all = All-nil (λ (p : Part). OfBodies P p.entries)
parts_bodies P (p ∷ ps) all =
    All-cons (λ (q : Part). OfBodies P q.entries) p ps (All-left (λ (e : Entry). P e.body) p.entries (entries_of ps) all)
    (parts_bodies P ps (All-right (λ (e : Entry). P e.body) p.entries (entries_of ps) all))

thread_bodies : (P : Body → Type 0) (ds : List Directory) → Bodies P ds → All (λ p. OfBodies P p.entries) (thread ds)
thread_bodies P [] all = All-nil (λ (p : Part). OfBodies P p.entries)
thread_bodies P (d ∷ ds) all =
    All-append (λ (p : Part). OfBodies P p.entries) (parts d) (thread ds)
    (parts_bodies P (parts d) (All-head (λ (x : Directory). OfBodies P (entries x)) d ds all))
    (thread_bodies P ds (All-tail (λ (x : Directory). OfBodies P (entries x)) d ds all))

pub link_has : (P : Body → Type 0) (ds : List Directory) → Bodies P ds → (l : Link) → Contains (links ds) l → (e : Entry)
    → Contains l.part.entries e → P e.body
link_has P ds all l there e inside =
    All-contains (λ (x : Entry). P x.body) l.part.entries e (All-contains (λ (p : Part). OfBodies P p.entries) (thread ds) l.part
    (thread_bodies P ds all) (part_there ds l there)) inside

joined_bodies : (P : Body → Type 0) (ps : List Part) → All (λ p. OfBodies P p.entries) ps → OfBodies P (entries_of ps)
joined_bodies P [] all = All-nil (λ (e : Entry). P e.body)
joined_bodies P (p ∷ ps) all =
    All-append (λ (e : Entry). P e.body) p.entries (entries_of ps) (All-head (λ (q : Part). OfBodies P q.entries) p ps all)
    (joined_bodies P ps (All-tail (λ (q : Part). OfBodies P q.entries) p ps all))

pub by_parts : (P : Body → Type 0) (ds : List Directory) → All (λ p. OfBodies P p.entries) (thread ds) → Bodies P ds
by_parts P [] all = All-nil (λ (d : Directory). OfBodies P (entries d))
by_parts P (d ∷ ds) all =
    All-cons (λ (x : Directory). OfBodies P (entries x)) d ds (joined_bodies P (parts d)
    (All-left (λ (p : Part). OfBodies P p.entries) (parts d) (thread ds) all))
    (by_parts P ds (All-right (λ (p : Part). OfBodies P p.entries) (parts d) (thread ds) all))
