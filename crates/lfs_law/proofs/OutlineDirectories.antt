-- Edits of the outline of a directory, and of directories in the order of the thread.
use Rattle.std.proofs.Common.{◌≡◌, ℕ, Bool, true, false, List, [], ◌∷◌, ◌++◌, refl, ap, sym, ◌∙◌, map, length, Some}
use Rattle.std.specs.Prelude.{◌==◌, ◌&&◌, ◌||◌, if◌then◌else◌, find, bit_xor}
use Rattle.std.specs.List.{list_any, filter}
use Rattle.std.specs.Option.{option_map}
use Rattle.std.proofs.lemmas.List.{map-append, length-map}
use Rattle.lfs_meta.specs.Name.{Name}
use Rattle.lfs_meta.specs.Body.{Pair}
use Rattle.lfs_fs.specs.NameOrder.{precedes}
use Rattle.lfs_fs.specs.Entry.{Entry}
use Rattle.lfs_fs.specs.Directory.{Part, Directory, parts, entries, begins_at, thread}
use Rattle.lfs_fs.specs.State.{delta_of}
use Rattle.lfs_fs.specs.Outlined.{outlined_entry, outlined_part, outlined_directory, outlined_directories}
use Rattle.lfs_command.specs.EntryEdit.{place, without, changed}
use Rattle.lfs_command.specs.DirectoryEdit.{touch, each_part, has_name, unlink_in, change_in, behind, link_parts, link_in, touch_last_of}
use Rattle.lfs_command.specs.DirectoryEdit.{touch_last, absorb_in, absorb, taking_up, drop_later, has_only}
use Rattle.lfs_command.specs.ThreadEdit.{in_directory, link, unlink, change, add_after, take_out, drop_directory, touch_first}
use Rattle.lfs_law.proofs.DirectoryEdits.{entries_of}
use Rattle.lfs_law.proofs.OutlineEntries.{cons_same, outlined_entries, any_named_outlined, any_later_outlined, place_outlined}
use Rattle.lfs_law.proofs.OutlineEntries.{without_outlined, Outlines, changed_outlined}

-- ---- parts

abbrev pub outlined_parts : List Part → List Part
outlined_parts = map outlined_part

entries_of_outlined : (ps : List Part) → entries_of (outlined_parts ps) ≡ outlined_entries (entries_of ps)
entries_of_outlined [] = refl
entries_of_outlined (p ∷ ps) = ap (λ (es : List Entry). outlined_entries p.entries ++ es) (entries_of_outlined ps)
    ∙ sym (map-append outlined_entry p.entries (entries_of ps))

pub entries_outlined : (d : Directory) → entries (outlined_directory d) ≡ outlined_entries (entries d)
entries_outlined d = entries_of_outlined (parts d)

pub thread_outlined : (ds : List Directory) → thread (outlined_directories ds) ≡ outlined_parts (thread ds)
thread_outlined [] = refl
thread_outlined (d ∷ ds) = ap (λ (ps : List Part). outlined_parts (parts d) ++ ps) (thread_outlined ds)
    ∙ sym (map-append outlined_part (parts d) (thread ds))

pub delta_outlined : (ps : List Part) → delta_of (outlined_parts ps) ≡ delta_of ps
delta_outlined [] = refl
delta_outlined (p ∷ ps) = ap (bit_xor p.delta) (delta_outlined ps)

-- a part set, with other entries
abbrev with_entries : Part → Bool → List Entry → Part
with_entries p set es = record { pair = p.pair; entries = es; delta = p.delta; dirty = p.dirty || set }

-- ---- a part changed by itself

each_by : (set : Part → Bool) (f g : List Entry → List Entry) → ((p : Part) → set (outlined_part p) ≡ set p)
    → ((es : List Entry) → g (outlined_entries es) ≡ outlined_entries (f es))
    → (p : Part) → touch (set (outlined_part p)) g (outlined_part p) ≡ outlined_part (touch (set p) f p)
each_by set f g sets same p =
    ap (λ (t : Bool). with_entries p t (g (outlined_entries p.entries))) (sets p) ∙ ap (with_entries p (set p)) (same p.entries)

each_parts : (f g : Part → Part) → ((p : Part) → g (outlined_part p) ≡ outlined_part (f p)) → (ps : List Part)
    → map g (outlined_parts ps) ≡ outlined_parts (map f ps)
each_parts f g same [] = refl
each_parts f g same (p ∷ ps) = cons_same (g (outlined_part p)) (outlined_part (f p)) (map g (outlined_parts ps)) (outlined_parts (map f ps))
    (same p) (each_parts f g same ps)

each_outlined : (f g : Part → Part) → ((p : Part) → g (outlined_part p) ≡ outlined_part (f p)) → (d : Directory)
    → each_part g (outlined_directory d) ≡ outlined_directory (each_part f d)
each_outlined f g same d =
    ap (λ (p : Part). record { first = p; more = map g (outlined_parts d.more) }) (same d.first)
    ∙ ap (λ (ps : List Part). record { first = outlined_part (f d.first); more = ps }) (each_parts f g same d.more)

-- ---- later parts taken out

pub only_outlined : (n : Name) (p : Part) → has_only n (outlined_part p) ≡ has_only n p
only_outlined n p =
    ap (λ (t : Bool). t && length (without n (outlined_entries p.entries)) == 0) (any_named_outlined n p.entries)
    ∙ ap (λ (es : List Entry). has_name n p && length es == 0) (without_outlined n p.entries)
    ∙ ap (λ (l : ℕ). has_name n p && l == 0) (length-map (without n p.entries) outlined_entry)

dropped_outlined : (goes : Part → Bool) → ((p : Part) → goes (outlined_part p) ≡ goes p) → (p : Part) (ps : List Part)
    → drop_later goes (outlined_part p) (outlined_parts ps) ≡ outlined_directory (drop_later goes p ps)
unfolding drop_later
dropped_outlined goes same p [] = refl
dropped_outlined goes same p (q ∷ ps) =
    ap (λ (t : Bool). if t then drop_later goes (taking_up q.delta (outlined_part p)) (outlined_parts ps)
    else behind (outlined_part p) (drop_later goes (outlined_part q) (outlined_parts ps))) (same q)
    ∙ go (goes q) (dropped_outlined goes same (taking_up q.delta p) ps) (dropped_outlined goes same q ps)
  where
    go : (t : Bool)
        → drop_later goes (outlined_part (taking_up q.delta p)) (outlined_parts ps) ≡ outlined_directory (drop_later goes (taking_up q.delta p) ps)
        → drop_later goes (outlined_part q) (outlined_parts ps) ≡ outlined_directory (drop_later goes q ps)
        → (if t then drop_later goes (taking_up q.delta (outlined_part p)) (outlined_parts ps)
        else behind (outlined_part p) (drop_later goes (outlined_part q) (outlined_parts ps)))
        ≡ outlined_directory (if t then drop_later goes (taking_up q.delta p) ps else behind p (drop_later goes q ps))
    go true gone later = gone
    go false gone later = ap (behind (outlined_part p)) later

-- the parts that leave a directory
pub emptied_outlined : (n : Name) (ps : List Part) → filter (has_only n) (outlined_parts ps) ≡ outlined_parts (filter (has_only n) ps)
emptied_outlined n [] = refl
emptied_outlined n (p ∷ ps) =
    ap (λ (t : Bool). if t then outlined_part p ∷ filter (has_only n) (outlined_parts ps) else filter (has_only n) (outlined_parts ps))
    (only_outlined n p) ∙ go (has_only n p) (emptied_outlined n ps)
  where
    go : (t : Bool) → filter (has_only n) (outlined_parts ps) ≡ outlined_parts (filter (has_only n) ps)
        → (if t then outlined_part p ∷ filter (has_only n) (outlined_parts ps) else filter (has_only n) (outlined_parts ps))
        ≡ outlined_parts (if t then p ∷ filter (has_only n) ps else filter (has_only n) ps)
    go true later = ap (λ (qs : List Part). outlined_part p ∷ qs) later
    go false later = later

unlink_in_outlined : (n : Name) (d : Directory) → unlink_in n (outlined_directory d) ≡ outlined_directory (unlink_in n d)
unlink_in_outlined n d =
    ap (each_part (λ p. touch (has_name n p) (without n) p)) (dropped_outlined (has_only n) (only_outlined n) d.first d.more)
    ∙ each_outlined (λ p. touch (has_name n p) (without n) p) (λ p. touch (has_name n p) (without n) p)
    (each_by (has_name n) (without n) (without n) (λ p. any_named_outlined n p.entries) (without_outlined n))
    (drop_later (has_only n) d.first d.more)

change_in_outlined : (n : Name) (f g : Entry → Entry) → Outlines f g → (d : Directory)
    → change_in n g (outlined_directory d) ≡ outlined_directory (change_in n f d)
change_in_outlined n f g same d =
    each_outlined (λ p. touch (has_name n p) (changed n f) p) (λ p. touch (has_name n p) (changed n g) p)
    (each_by (has_name n) (changed n f) (changed n g) (λ p. any_named_outlined n p.entries) (changed_outlined n f g same)) d

-- ---- an entry put in

touch_place : (e : Entry) (p : Part) → touch true (place (outlined_entry e)) (outlined_part p) ≡ outlined_part (touch true (place e) p)
touch_place e p = ap (with_entries p true) (place_outlined e p.entries)

link_by : (e : Entry) (p q : Part) (ps : List Part) (t : Bool) → link_parts (outlined_entry e) (outlined_part q) (outlined_parts ps)
    ≡ outlined_directory (link_parts e q ps)
    → (if t then record {
      first = touch true (place (outlined_entry e)) (outlined_part p);
      more =
          outlined_part q ∷ outlined_parts ps;
    } else behind (outlined_part p) (link_parts (outlined_entry e) (outlined_part q) (outlined_parts ps)))
    ≡ outlined_directory (if t then record { first = touch true (place e) p; more = q ∷ ps } else behind p (link_parts e q ps))
link_by e p q ps true rest = ap (λ (x : Part). record { first = x; more = outlined_part q ∷ outlined_parts ps }) (touch_place e p)
link_by e p q ps false rest = ap (behind (outlined_part p)) rest

link_parts_outlined : (e : Entry) (p : Part) (ps : List Part) → link_parts (outlined_entry e) (outlined_part p) (outlined_parts ps)
    ≡ outlined_directory (link_parts e p ps)
unfolding link_parts
link_parts_outlined e p [] = ap (λ (x : Part). record { first = x; more = [] }) (touch_place e p)
link_parts_outlined e p (q ∷ ps) =
    ap (λ (t : Bool). if t then record {
      first = touch true (place (outlined_entry e)) (outlined_part p);
      more =
          outlined_part q ∷ outlined_parts ps;
    } else behind (outlined_part p) (link_parts (outlined_entry e) (outlined_part q) (outlined_parts ps)))
    (any_later_outlined e.name p.entries)
    ∙ link_by e p q ps (list_any (λ f. precedes e.name f.name) p.entries) (link_parts_outlined e q ps)

-- ---- the last part set

touch_last_of_outlined : (p : Part) (ps : List Part) → touch_last_of (outlined_part p) (outlined_parts ps)
    ≡ outlined_directory (touch_last_of p ps)
unfolding touch_last_of
touch_last_of_outlined p [] = refl
touch_last_of_outlined p (q ∷ ps) = ap (behind (outlined_part p)) (touch_last_of_outlined q ps)

absorb_in_outlined : (delta : ℕ) (p : Part) (ps : List Part) → absorb_in delta (outlined_part p) (outlined_parts ps)
    ≡ outlined_directory (absorb_in delta p ps)
unfolding absorb_in
absorb_in_outlined delta p [] = refl
absorb_in_outlined delta p (q ∷ ps) = ap (behind (outlined_part p)) (absorb_in_outlined delta q ps)

absorb_outlined : (d gone : Directory) → absorb (outlined_directory d) (outlined_directory gone) ≡ outlined_directory (absorb d gone)
absorb_outlined d gone =
    ap (λ (delta : ℕ). absorb_in delta (outlined_part d.first) (outlined_parts d.more)) (delta_outlined (parts gone))
    ∙ absorb_in_outlined (delta_of (parts gone)) d.first d.more

-- ---- directories

in_by : (f g : Directory → Directory) → ((d : Directory) → g (outlined_directory d) ≡ outlined_directory (f d)) → (d : Directory) (t : Bool)
    → (if t then g (outlined_directory d) else outlined_directory d) ≡ outlined_directory (if t then f d else d)
in_by f g same d true = same d
in_by f g same d false = refl

in_outlined : (k : Pair) (f g : Directory → Directory) → ((d : Directory) → g (outlined_directory d) ≡ outlined_directory (f d))
    → (ds : List Directory)
    → in_directory k g (outlined_directories ds) ≡ outlined_directories (in_directory k f ds)
in_outlined k f g same [] = refl
in_outlined k f g same (d ∷ ds) =
    cons_same (if begins_at k d then g (outlined_directory d) else outlined_directory d)
    (outlined_directory (if begins_at k d then f d else d))
    (in_directory k g (outlined_directories ds)) (outlined_directories (in_directory k f ds))
    (in_by f g same d (begins_at k d)) (in_outlined k f g same ds)

pub link_outlined : (k : Pair) (e : Entry) (ds : List Directory) → link k (outlined_entry e) (outlined_directories ds)
    ≡ outlined_directories (link k e ds)
link_outlined k e ds = in_outlined k (link_in e) (link_in (outlined_entry e)) (λ d. link_parts_outlined e d.first d.more) ds

pub unlink_outlined : (k : Pair) (n : Name) (ds : List Directory) → unlink k n (outlined_directories ds)
    ≡ outlined_directories (unlink k n ds)
unlink_outlined k n ds = in_outlined k (unlink_in n) (unlink_in n) (unlink_in_outlined n) ds

pub change_outlined : (k : Pair) (n : Name) (f g : Entry → Entry) → Outlines f g → (ds : List Directory)
    → change k n g (outlined_directories ds) ≡ outlined_directories (change k n f ds)
change_outlined k n f g same ds = in_outlined k (change_in n f) (change_in n g) (change_in_outlined n f g same) ds

add_by : (k : Pair) (new d : Directory) (ds : List Directory) (t : Bool)
    → add_after k (outlined_directory new) (outlined_directories ds) ≡ outlined_directories (add_after k new ds)
    → (if t then touch_last (outlined_directory d) ∷ outlined_directory new ∷ outlined_directories ds else outlined_directory d
    ∷ add_after k (outlined_directory new) (outlined_directories ds))
    ≡ outlined_directories (if t then touch_last d ∷ new ∷ ds else d ∷ add_after k new ds)
add_by k new d ds true rest = ap (λ (x : Directory). x ∷ outlined_directory new ∷ outlined_directories ds)
    (touch_last_of_outlined d.first d.more)
add_by k new d ds false rest = ap (λ (xs : List Directory). outlined_directory d ∷ xs) rest

pub add_outlined : (k : Pair) (new : Directory) (ds : List Directory)
    → add_after k (outlined_directory new) (outlined_directories ds) ≡ outlined_directories (add_after k new ds)
unfolding add_after
add_outlined k new [] = refl
add_outlined k new (d ∷ ds) = add_by k new d ds (begins_at k d) (add_outlined k new ds)

take_by : (k : Pair) (d e : Directory) (ds : List Directory) (t : Bool)
    → take_out k (outlined_directory e) (outlined_directories ds) ≡ outlined_directories (take_out k e ds)
    → (if t then absorb (outlined_directory d) (outlined_directory e) ∷ outlined_directories ds else outlined_directory d
    ∷ take_out k (outlined_directory e) (outlined_directories ds))
    ≡ outlined_directories (if t then absorb d e ∷ ds else d ∷ take_out k e ds)
take_by k d e ds true rest = ap (λ (x : Directory). x ∷ outlined_directories ds) (absorb_outlined d e)
take_by k d e ds false rest = ap (λ (xs : List Directory). outlined_directory d ∷ xs) rest

take_outlined : (k : Pair) (d : Directory) (ds : List Directory) → take_out k (outlined_directory d) (outlined_directories ds)
    ≡ outlined_directories (take_out k d ds)
unfolding take_out
take_outlined k d [] = refl
take_outlined k d (e ∷ ds) = take_by k d e ds (begins_at k e) (take_outlined k e ds)

pub drop_outlined : (k : Pair) (ds : List Directory) → drop_directory k (outlined_directories ds)
    ≡ outlined_directories (drop_directory k ds)
drop_outlined k [] = refl
drop_outlined k (d ∷ ds) = take_outlined k d ds

pub touch_first_outlined : (ds : List Directory) → touch_first (outlined_directories ds) ≡ outlined_directories (touch_first ds)
touch_first_outlined [] = refl
touch_first_outlined (d ∷ ds) = refl

-- ---- what is found

pub find_directory_outlined : (k : Pair) (ds : List Directory) → find (begins_at k) (outlined_directories ds)
    ≡ option_map outlined_directory (find (begins_at k) ds)
find_directory_outlined k [] = refl
find_directory_outlined k (d ∷ ds) = by (begins_at k d) (find_directory_outlined k ds)
  where
    by : (t : Bool) → find (begins_at k) (outlined_directories ds) ≡ option_map outlined_directory (find (begins_at k) ds)
        → (if t then Some (outlined_directory d) else find (begins_at k) (outlined_directories ds))
        ≡ option_map outlined_directory (if t then Some d else find (begins_at k) ds)
    by true rest = refl
    by false rest = rest
