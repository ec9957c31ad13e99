-- The outline of the volume that a command leaves is what it makes of the outline.
use Rattle.std.proofs.Common.{◌≡◌, List, refl, ap, sym, ◌∙◌, Option, Some, None}
use Rattle.std.specs.Option.{option_map, option_and_then}
use Rattle.lfs_meta.specs.Name.{Name}
use Rattle.lfs_meta.specs.Attribute.{Attributes, set_attribute, remove_attribute}
use Rattle.lfs_meta.specs.Body.{Pair}
use Rattle.lfs_fs.specs.Path.{Path}
use Rattle.lfs_fs.specs.Entry.{Body, Directory_at, Entry, target}
use Rattle.lfs_fs.specs.Directory.{Directory}
use Rattle.lfs_fs.specs.Volume.{Volume}
use Rattle.lfs_fs.specs.Tree.{entry_in, entry_at}
use Rattle.lfs_fs.specs.Outlined.{outlined_body, outlined_entry, outlined_directories, outlined}
use Rattle.lfs_fs.proofs.OutlinedLemmas.{outlined_target, outlined_at}
use Rattle.lfs_command.specs.ThreadEdit.{link, unlink, change, add_after}
use Rattle.lfs_command.specs.Command.{Mkdir, Put, Rm, Mv, SetAttr, RmAttr, Grow}
use Rattle.lfs_command.specs.Supplies.{new_body}
use Rattle.lfs_command.specs.Parent.{split_last, parent_of}
use Rattle.lfs_command.specs.Edited.{with_directories, with_body, with_entry_attributes, renamed, new_entry, empty_directory}
use Rattle.lfs_command.specs.Edited.{set_attributes, make_directory, put_file, drop_target, remove_entry, move_entry}
use Rattle.lfs_law.specs.EditedOutline.{OutlinesFollow}
use Rattle.lfs_law.proofs.OutlineDirectories.{link_outlined, unlink_outlined, change_outlined, add_outlined}
use Rattle.lfs_law.proofs.OutlineDirectories.{drop_outlined, touch_first_outlined}

-- ---- the tree

-- the entry under a name in the directory that an entry leads to
abbrev under : List Directory → Name → Option Entry → Option Entry
under ds n o = option_and_then (λ e. option_and_then (λ k. entry_in ds k n) (target e)) o

pub target_outlined : (o : Option Entry) → option_and_then target (option_map outlined_entry o) ≡ option_and_then target o
target_outlined None = refl
target_outlined (Some e) = outlined_target e

-- ---- where a path belongs to

-- a name in the directory that an entry leads to
abbrev pub parent_in : Name → Option Entry → Option (Pair × Name)
parent_in n o = option_and_then (λ e. option_map (λ (k : Pair). (k, n)) (target e)) o

parent_by : (n : Name) (o : Option Entry) → parent_in n (option_map outlined_entry o) ≡ parent_in n o
parent_by n None = refl
parent_by n (Some e) = ap (λ (o : Option Pair). option_map {U = Pair × Name} (λ (k : Pair). (k, n)) o) (outlined_target e)

abbrev pub parent_split : Volume → Option (Path × Name) → Option (Pair × Name)
parent_split v o = option_and_then (λ (s : Path × Name). parent_in s.1 (entry_at v s.0)) o

parent_from : (v : Volume) (o : Option (Path × Name)) → parent_split (outlined v) o ≡ parent_split v o
parent_from v None = refl
parent_from v (Some s) = ap (parent_in s.1) (outlined_at v s.0) ∙ parent_by s.1 (entry_at v s.0)

pub parent_outlined : (v : Volume) (path : Path) → parent_of (outlined v) path ≡ parent_of v path
parent_outlined v path = parent_from v (split_last path)

-- ---- the edits

with_outlined : (v : Volume) (ds es : List Directory) → es ≡ outlined_directories ds
    → outlined (with_directories v ds) ≡ with_directories (outlined v) es
with_outlined v ds es same = ap (with_directories (outlined v)) (sym same)

set_outlined : (v : Volume) (f : Attributes → Attributes) (h : Option (Pair × Name))
    → outlined (set_attributes v f h) ≡ set_attributes (outlined v) f h
set_outlined v f None = ap (λ (ds : List Directory). record {
  size = v.size;
  count = v.count;
  limits = v.limits;
  attributes = f v.attributes;
  directories = ds;
})
    (sym (touch_first_outlined v.directories))
set_outlined v f (Some h) =
    with_outlined v (change h.0 h.1 (with_entry_attributes f) v.directories)
    (change h.0 h.1 (with_entry_attributes f) (outlined_directories v.directories))
    (change_outlined h.0 h.1 (with_entry_attributes f) (with_entry_attributes f) (λ e. refl) v.directories)

make_outlined : (v : Volume) (pair : Pair) (h : Option (Pair × Name))
    → outlined (make_directory v pair h) ≡ make_directory (outlined v) pair h
make_outlined v pair None = refl
make_outlined v pair (Some h) =
    let e : Entry = new_entry h.1 (Directory_at pair) in
    with_outlined v (add_after h.0 (empty_directory pair) (link h.0 e v.directories))
    (add_after h.0 (empty_directory pair) (link h.0 e (outlined_directories v.directories)))
    (ap (add_after h.0 (empty_directory pair)) (link_outlined h.0 e v.directories)
    ∙ add_outlined h.0 (empty_directory pair) (link h.0 e v.directories))

put_outlined : (v : Volume) (body : Body) (h : Option (Pair × Name)) (old : Option Entry)
    → outlined (put_file v body h old) ≡ put_file (outlined v) (outlined_body body) h (option_map outlined_entry old)
put_outlined v body None old = refl
put_outlined v body (Some h) None =
    with_outlined v (link h.0 (new_entry h.1 body) v.directories) (link h.0 (new_entry h.1 (outlined_body body))
    (outlined_directories v.directories))
    (link_outlined h.0 (new_entry h.1 body) v.directories)
put_outlined v body (Some h) (Some e) =
    with_outlined v (change h.0 h.1 (with_body body) v.directories) (change h.0 h.1 (with_body (outlined_body body))
    (outlined_directories v.directories))
    (change_outlined h.0 h.1 (with_body body) (with_body (outlined_body body)) (λ x. refl) v.directories)

drop_target_outlined : (o : Option Pair) (ds : List Directory) → drop_target o (outlined_directories ds)
    ≡ outlined_directories (drop_target o ds)
drop_target_outlined None ds = refl
drop_target_outlined (Some k) ds = drop_outlined k ds

remove_outlined : (v : Volume) (h : Option (Pair × Name)) (old : Option Entry)
    → outlined (remove_entry v h old) ≡ remove_entry (outlined v) h (option_map outlined_entry old)
remove_outlined v None old = refl
remove_outlined v (Some h) None = refl
remove_outlined v (Some h) (Some e) =
    with_outlined v (drop_target (target e) (unlink h.0 h.1 v.directories))
    (drop_target (target (outlined_entry e)) (unlink h.0 h.1 (outlined_directories v.directories)))
    (ap (λ (o : Option Pair). drop_target o (unlink h.0 h.1 (outlined_directories v.directories))) (outlined_target e)
    ∙ ap (drop_target (target e)) (unlink_outlined h.0 h.1 v.directories) ∙ drop_target_outlined (target e) (unlink h.0 h.1 v.directories))

move_outlined : (v : Volume) (from to : Option (Pair × Name)) (old : Option Entry)
    → outlined (move_entry v from to old) ≡ move_entry (outlined v) from to (option_map outlined_entry old)
move_outlined v None to old = refl
move_outlined v (Some h) None old = refl
move_outlined v (Some h) (Some g) None = refl
move_outlined v (Some h) (Some g) (Some e) =
    with_outlined v (link g.0 (renamed g.1 e) (unlink h.0 h.1 v.directories))
    (link g.0 (renamed g.1 (outlined_entry e)) (unlink h.0 h.1 (outlined_directories v.directories)))
    (ap (link g.0 (renamed g.1 (outlined_entry e))) (unlink_outlined h.0 h.1 v.directories)
    ∙ link_outlined g.0 (renamed g.1 e) (unlink h.0 h.1 v.directories))

-- ---- the commands

pub outlines_follow : OutlinesFollow
outlines_follow v (Mkdir p) s = make_outlined v s.pair (parent_of v p) ∙ ap (make_directory (outlined v) s.pair) (sym (parent_outlined v p))
outlines_follow v (Put p bytes most) s =
    put_outlined v (new_body v s bytes most) (parent_of v p) (entry_at v p)
    ∙ ap (λ (h : Option (Pair × Name)). put_file (outlined v) (outlined_body (new_body v s bytes most)) h
    (option_map outlined_entry (entry_at v p))) (sym (parent_outlined v p))
    ∙ ap (put_file (outlined v) (outlined_body (new_body v s bytes most)) (parent_of (outlined v) p)) (sym (outlined_at v p))
outlines_follow v (Rm p) s =
    remove_outlined v (parent_of v p) (entry_at v p)
    ∙ ap (λ (h : Option (Pair × Name)). remove_entry (outlined v) h (option_map outlined_entry (entry_at v p))) (sym (parent_outlined v p))
    ∙ ap (remove_entry (outlined v) (parent_of (outlined v) p)) (sym (outlined_at v p))
outlines_follow v (Mv p q) s =
    move_outlined v (parent_of v p) (parent_of v q) (entry_at v p)
    ∙ ap (λ (h : Option (Pair × Name)). move_entry (outlined v) h (parent_of v q) (option_map outlined_entry (entry_at v p)))
    (sym (parent_outlined v p))
    ∙ ap (λ (h : Option (Pair × Name)). move_entry (outlined v) (parent_of (outlined v) p) h (option_map outlined_entry (entry_at v p)))
    (sym (parent_outlined v q))
    ∙ ap (move_entry (outlined v) (parent_of (outlined v) p) (parent_of (outlined v) q)) (sym (outlined_at v p))
outlines_follow v (SetAttr p k value) s = set_outlined v (set_attribute k value) (parent_of v p)
    ∙ ap (set_attributes (outlined v) (set_attribute k value)) (sym (parent_outlined v p))
outlines_follow v (RmAttr p k) s = set_outlined v (remove_attribute k) (parent_of v p)
    ∙ ap (set_attributes (outlined v) (remove_attribute k)) (sym (parent_outlined v p))
outlines_follow v (Grow n) s =
    ap (λ (ds : List Directory). record { size = v.size; count = n; limits = v.limits; attributes = v.attributes; directories = ds })
    (sym (touch_first_outlined v.directories))
