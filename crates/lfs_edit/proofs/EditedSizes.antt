-- A command keeps a volume's size.
use Rattle.std.proofs.Common.{◌≡◌, Option, Some, None, refl}
use Rattle.lfs_meta.specs.Attribute.{Attributes, set_attribute, remove_attribute}
use Rattle.lfs_meta.specs.Body.{Pair}
use Rattle.lfs_meta.specs.Name.{Name}
use Rattle.lfs_fs.specs.Entry.{Body, Entry}
use Rattle.lfs_fs.specs.Tree.{entry_at}
use Rattle.lfs_fs.specs.Volume.{Volume}
use Rattle.lfs_command.specs.Command.{Command, Mkdir, Put, Rm, Mv, SetAttr, RmAttr, Grow}
use Rattle.lfs_command.specs.Edited.{edited, make_directory, move_entry, put_file, remove_entry, set_attributes}
use Rattle.lfs_command.specs.Parent.{parent_of}
use Rattle.lfs_command.specs.Supplies.{Supplies, new_body}

make_size : (v : Volume) (pair : Pair) (h : Option (Pair × Name)) → (make_directory v pair h).size ≡ v.size
make_size v pair None = refl
make_size v pair (Some h) = refl

put_size : (v : Volume) (b : Body) (h : Option (Pair × Name)) (old : Option Entry) → (put_file v b h old).size ≡ v.size
put_size v b None old = refl
put_size v b (Some h) None = refl
put_size v b (Some h) (Some e) = refl

remove_size : (v : Volume) (h : Option (Pair × Name)) (old : Option Entry) → (remove_entry v h old).size ≡ v.size
remove_size v None old = refl
remove_size v (Some h) None = refl
remove_size v (Some h) (Some e) = refl

move_size : (v : Volume) (h g : Option (Pair × Name)) (old : Option Entry) → (move_entry v h g old).size ≡ v.size
move_size v None g old = refl
move_size v (Some h) None old = refl
move_size v (Some h) (Some g) None = refl
move_size v (Some h) (Some g) (Some e) = refl

set_size : (v : Volume) (f : Attributes → Attributes) (h : Option (Pair × Name)) → (set_attributes v f h).size ≡ v.size
set_size v f None = refl
set_size v f (Some h) = refl

pub edited_size : (v : Volume) (c : Command) (s : Supplies) → (edited v c s).size ≡ v.size
edited_size v (Mkdir p) s = make_size v s.pair (parent_of v p)
edited_size v (Put p bytes most) s = put_size v (new_body v s bytes most) (parent_of v p) (entry_at v p)
edited_size v (Rm p) s = remove_size v (parent_of v p) (entry_at v p)
edited_size v (Mv p q) s = move_size v (parent_of v p) (parent_of v q) (entry_at v p)
edited_size v (SetAttr p k value) s = set_size v (set_attribute k value) (parent_of v p)
edited_size v (RmAttr p k) s = set_size v (remove_attribute k) (parent_of v p)
edited_size v (Grow n) s = refl
