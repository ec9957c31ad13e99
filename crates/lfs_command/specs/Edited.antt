-- What a command does to a volume, before parts that overflow are cut (own).
use Rattle.std.specs.Prelude.{ℕ, List, [], true, Option, Some, None}
use Rattle.lfs_meta.specs.Name.{Name}
use Rattle.lfs_meta.specs.Attribute.{Attributes, set_attribute, remove_attribute}
use Rattle.lfs_meta.specs.Body.{Pair}
use Rattle.lfs_fs.specs.Entry.{Body, Directory_at, Entry, target}
use Rattle.lfs_fs.specs.Directory.{Directory}
use Rattle.lfs_fs.specs.Volume.{Volume}
use Rattle.lfs_fs.specs.Tree.{entry_at}
use Rattle.lfs_command.specs.ThreadEdit.{link, unlink, change, add_after, drop_directory, touch_first}
use Rattle.lfs_command.specs.Command.{Command, Mkdir, Put, Rm, Mv, SetAttr, RmAttr, Grow}
use Rattle.lfs_command.specs.Supplies.{Supplies, new_body}
use Rattle.lfs_command.specs.Parent.{parent_of}

-- an entry with another body
abbrev pub with_body : Body → Entry → Entry
with_body b e = record { name = e.name; body = b; attributes = e.attributes }

-- an entry with its attributes changed
abbrev pub with_entry_attributes : (Attributes → Attributes) → Entry → Entry
with_entry_attributes f e = record { name = e.name; body = e.body; attributes = f e.attributes }

-- an entry with another name
abbrev pub renamed : Name → Entry → Entry
renamed m e = record { name = m; body = e.body; attributes = e.attributes }

-- an entry without attributes
abbrev pub new_entry : Name → Body → Entry
new_entry n b = record { name = n; body = b; attributes = [] }

-- a directory without entries at a pair
abbrev pub empty_directory : Pair → Directory
empty_directory pair = record { first = record { pair = pair; entries = []; delta = 0; dirty = true }; more = [] }

-- a volume with other directories
abbrev pub with_directories : Volume → List Directory → Volume
with_directories v ds = record { size = v.size; count = v.count; limits = v.limits; attributes = v.attributes; directories = ds }

-- attributes changed, of the root where there is no parent
abbrev pub set_attributes : Volume → (Attributes → Attributes) → Option (Pair × Name) → Volume
set_attributes v f None = record {
  size = v.size;
  count = v.count;
  limits = v.limits;
  attributes = f v.attributes;
  directories = touch_first v.directories;
}
set_attributes v f (Some h) = with_directories v (change h.0 h.1 (with_entry_attributes f) v.directories)

-- a directory linked in the parent, and put into the thread behind it
abbrev pub make_directory : Volume → Pair → Option (Pair × Name) → Volume
make_directory v pair None = v
make_directory v pair (Some h) = with_directories v (add_after h.0 (empty_directory pair)
    (link h.0 (new_entry h.1 (Directory_at pair)) v.directories))

-- a new file linked, or an old one's body replaced
abbrev pub put_file : Volume → Body → Option (Pair × Name) → Option Entry → Volume
put_file v body None old = v
put_file v body (Some h) None = with_directories v (link h.0 (new_entry h.1 body) v.directories)
put_file v body (Some h) (Some e) = with_directories v (change h.0 h.1 (with_body body) v.directories)

-- the directory that an entry leads to, taken out of the thread
abbrev pub drop_target : Option Pair → List Directory → List Directory
drop_target None ds = ds
drop_target (Some j) ds = drop_directory j ds

-- an entry taken out, with the directory that it leads to
abbrev pub remove_entry : Volume → Option (Pair × Name) → Option Entry → Volume
remove_entry v None e = v
remove_entry v (Some h) None = v
remove_entry v (Some h) (Some e) = with_directories v (drop_target (target e) (unlink h.0 h.1 v.directories))

-- an entry taken out of one place and put into another
abbrev pub move_entry : Volume → Option (Pair × Name) → Option (Pair × Name) → Option Entry → Volume
move_entry v None to e = v
move_entry v (Some h) None e = v
move_entry v (Some h) (Some g) None = v
move_entry v (Some h) (Some g) (Some e) = with_directories v (link g.0 (renamed g.1 e) (unlink h.0 h.1 v.directories))

-- the superblock written anew, with another number of blocks
abbrev pub set_count : ℕ → Volume → Volume
set_count n v = record {
  size = v.size;
  count = n;
  limits = v.limits;
  attributes = v.attributes;
  directories = touch_first v.directories;
}

-- the volume after a command
abbrev pub edited : Volume → Command → Supplies → Volume
edited v (Mkdir p) s = make_directory v s.pair (parent_of v p)
edited v (Put p bytes most) s = put_file v (new_body v s bytes most) (parent_of v p) (entry_at v p)
edited v (Rm p) s = remove_entry v (parent_of v p) (entry_at v p)
edited v (Mv p q) s = move_entry v (parent_of v p) (parent_of v q) (entry_at v p)
edited v (SetAttr p k value) s = set_attributes v (set_attribute k value) (parent_of v p)
edited v (RmAttr p k) s = set_attributes v (remove_attribute k) (parent_of v p)
edited v (Grow n) s = set_count n v
