-- A command writes the parts that it sets, and nothing else.
use Rattle.std.proofs.Common.{◌≡◌, true, [], refl, Option, Some, None}
use Rattle.std.proofs.lemmas.List.Elements.{All-cons, All-nil}
use Rattle.lfs_meta.specs.Name.{Name}
use Rattle.lfs_meta.specs.Attribute.{Attributes, set_attribute, remove_attribute}
use Rattle.lfs_meta.specs.Body.{Pair}
use Rattle.lfs_fs.specs.Entry.{Body, Directory_at, Entry, target}
use Rattle.lfs_fs.specs.Directory.{Part}
use Rattle.lfs_fs.specs.Volume.{Volume}
use Rattle.lfs_fs.specs.Tree.{entry_at}
use Rattle.lfs_command.specs.Command.{Mkdir, Put, Rm, Mv, SetAttr, RmAttr, Grow}
use Rattle.lfs_command.specs.Supplies.{new_body}
use Rattle.lfs_command.specs.ThreadEdit.{link, unlink, drop_directory}
use Rattle.lfs_command.specs.Parent.{parent_of}
use Rattle.lfs_command.specs.Edited.{with_body, with_entry_attributes, renamed, new_entry, empty_directory, set_attributes, make_directory}
use Rattle.lfs_command.specs.Edited.{put_file, drop_target, remove_entry, move_entry, edited}
use Rattle.lfs_command.specs.Cut.{cut}
use Rattle.lfs_command.specs.Kept.{KeepLinks}
use Rattle.lfs_law.specs.Laws.{CommandsAreFrugal, CutsAreFrugal}
use Rattle.lfs_law.proofs.KeptLinks.{AllSet, keep_all, keep_twice, link_kept, unlink_kept, change_kept, add_kept, drop_kept}
use Rattle.lfs_law.proofs.KeptLinks.{touch_first_kept}
use Rattle.lfs_law.proofs.CutLinks.{cut_kept}

set_kept : (v : Volume) (f : Attributes → Attributes) (h : Option (Pair × Name))
    → KeepLinks v.directories (set_attributes v f h).directories
set_kept v f None = touch_first_kept v.directories
set_kept v f (Some h) = change_kept h.0 h.1 (with_entry_attributes f) v.directories

new_is_set : (pair : Pair) → AllSet (empty_directory pair)
new_is_set pair = All-cons (λ (p : Part). p.dirty ≡ true) (empty_directory pair).first [] refl (All-nil (λ (p : Part). p.dirty ≡ true))

make_kept : (v : Volume) (pair : Pair) (h : Option (Pair × Name)) → KeepLinks v.directories (make_directory v pair h).directories
make_kept v pair None = keep_all v.directories
make_kept v pair (Some h) =
    keep_twice v.directories (link h.0 (new_entry h.1 (Directory_at pair)) v.directories) (make_directory v pair (Some h)).directories
    (link_kept h.0 (new_entry h.1 (Directory_at pair)) v.directories)
    (add_kept h.0 (empty_directory pair) (link h.0 (new_entry h.1 (Directory_at pair)) v.directories) (new_is_set pair))

put_kept : (v : Volume) (body : Body) (h : Option (Pair × Name)) (old : Option Entry)
    → KeepLinks v.directories (put_file v body h old).directories
put_kept v body None old = keep_all v.directories
put_kept v body (Some h) None = link_kept h.0 (new_entry h.1 body) v.directories
put_kept v body (Some h) (Some e) = change_kept h.0 h.1 (with_body body) v.directories

remove_by : (v : Volume) (k : Pair) (n : Name) (o : Option Pair) → KeepLinks v.directories (drop_target o (unlink k n v.directories))
remove_by v k n None = unlink_kept k n v.directories
remove_by v k n (Some j) = keep_twice v.directories (unlink k n v.directories) (drop_directory j (unlink k n v.directories))
    (unlink_kept k n v.directories) (drop_kept j (unlink k n v.directories))

remove_kept : (v : Volume) (h : Option (Pair × Name)) (old : Option Entry) → KeepLinks v.directories (remove_entry v h old).directories
remove_kept v None old = keep_all v.directories
remove_kept v (Some h) None = keep_all v.directories
remove_kept v (Some h) (Some e) = remove_by v h.0 h.1 (target e)

move_kept : (v : Volume) (from to : Option (Pair × Name)) (old : Option Entry)
    → KeepLinks v.directories (move_entry v from to old).directories
move_kept v None to old = keep_all v.directories
move_kept v (Some h) None old = keep_all v.directories
move_kept v (Some h) (Some g) None = keep_all v.directories
move_kept v (Some h) (Some g) (Some e) =
    keep_twice v.directories (unlink h.0 h.1 v.directories) (link g.0 (renamed g.1 e) (unlink h.0 h.1 v.directories))
    (unlink_kept h.0 h.1 v.directories) (link_kept g.0 (renamed g.1 e) (unlink h.0 h.1 v.directories))

pub commands_are_frugal : CommandsAreFrugal
commands_are_frugal v (Mkdir p) s = make_kept v s.pair (parent_of v p)
commands_are_frugal v (Put p bytes most) s = put_kept v (new_body v s bytes most) (parent_of v p) (entry_at v p)
commands_are_frugal v (Rm p) s = remove_kept v (parent_of v p) (entry_at v p)
commands_are_frugal v (Mv p q) s = move_kept v (parent_of v p) (parent_of v q) (entry_at v p)
commands_are_frugal v (SetAttr p k value) s = set_kept v (set_attribute k value) (parent_of v p)
commands_are_frugal v (RmAttr p k) s = set_kept v (remove_attribute k) (parent_of v p)
commands_are_frugal v (Grow n) s = touch_first_kept v.directories

pub cuts_are_frugal : CutsAreFrugal
cuts_are_frugal v c s chosen = keep_twice v.directories (edited v c s).directories (cut chosen (edited v c s)).directories
    (commands_are_frugal v c s) (cut_kept chosen (edited v c s))
