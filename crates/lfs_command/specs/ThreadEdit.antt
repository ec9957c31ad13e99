-- Edits of the directories of a volume, in the order of the thread (own).
use Rattle.std.specs.Prelude.{true, List, [], ◌∷◌, if◌then◌else◌, map}
use Rattle.lfs_meta.specs.Name.{Name}
use Rattle.lfs_meta.specs.Body.{Pair}
use Rattle.lfs_fs.specs.Entry.{Entry}
use Rattle.lfs_fs.specs.Directory.{Directory, begins_at}
use Rattle.lfs_command.specs.DirectoryEdit.{unlink_in, change_in, link_in, touch_last, absorb}

-- the directory that begins at a pair, changed
abbrev pub in_directory : Pair → (Directory → Directory) → List Directory → List Directory
in_directory k f = map (λ d. if begins_at k d then f d else d)

-- an entry put into the directory of a pair
abbrev pub link : Pair → Entry → List Directory → List Directory
link k e = in_directory k (link_in e)

-- the entry of a name taken out of it
abbrev pub unlink : Pair → Name → List Directory → List Directory
unlink k n = in_directory k (unlink_in n)

-- the entry of a name changed in it
abbrev pub change : Pair → Name → (Entry → Entry) → List Directory → List Directory
change k n f = in_directory k (change_in n f)

-- a directory right behind the one of a pair, whose last part gets a new tail
unfoldable pub add_after : Pair → Directory → List Directory → List Directory
add_after k new [] = []
add_after k new (d ∷ ds) = if begins_at k d then touch_last d ∷ new ∷ ds else d ∷ add_after k new ds

-- the directory of a pair taken out behind d; the part before it takes up its deltas, and gets its last part's tail
unfoldable pub take_out : Pair → Directory → List Directory → List Directory
take_out k d [] = d ∷ []
take_out k d (e ∷ ds) = if begins_at k e then absorb d e ∷ ds else d ∷ take_out k e ds

-- the directory of a pair taken out, unless it is the first
abbrev pub drop_directory : Pair → List Directory → List Directory
drop_directory k [] = []
drop_directory k (d ∷ ds) = take_out k d ds

-- the first part set, for the sake of the root's attributes, which stand in the superblock entry
abbrev pub touch_first : List Directory → List Directory
touch_first [] = []
touch_first (d ∷ ds) = record {
  first = record { pair = d.first.pair; entries = d.first.entries; delta = d.first.delta; dirty = true };
  more = d.more;
} ∷ ds
