-- Edits of a directory: which of its parts is set, and to what (own).
use Rattle.std.specs.Prelude.{ℕ, ◌==◌, Bool, true, List, [], ◌∷◌, ◌||◌, ◌&&◌, if◌then◌else◌, length, map, bit_xor}
use Rattle.std.specs.List.{filter, list_any}
use Rattle.lfs_meta.specs.Name.{Name}
use Rattle.lfs_fs.specs.NameOrder.{precedes}
use Rattle.lfs_fs.specs.Entry.{Entry, is_named}
use Rattle.lfs_fs.specs.Directory.{Part, Directory, parts}
use Rattle.lfs_fs.specs.State.{delta_of}
use Rattle.lfs_command.specs.EntryEdit.{place, without, changed}

-- A part with other entries, marked where the command sets it. A part that is set is marked also where it stays the same.
abbrev pub touch : Bool → (List Entry → List Entry) → Part → Part
touch set f p = record { pair = p.pair; entries = f p.entries; delta = p.delta; dirty = p.dirty || set }

-- each part of a directory changed by itself
abbrev pub each_part : (Part → Part) → Directory → Directory
each_part f d = record { first = f d.first; more = map f d.more }

-- the part has an entry of that name
abbrev pub has_name : Name → Part → Bool
has_name n p = list_any (is_named n) p.entries

-- the part has an entry with a greater name
abbrev pub has_greater : Name → Part → Bool
has_greater n p = list_any (λ e. precedes n e.name) p.entries

-- the entry of a name changed; the part that has it is set
abbrev pub change_in : Name → (Entry → Entry) → Directory → Directory
change_in n f = each_part (λ p. touch (has_name n p) (changed n f) p)

-- a part in front of a directory's parts
abbrev pub behind : Part → Directory → Directory
behind p d = record { first = p; more = parts d }

-- a part that is set and takes up a delta
abbrev pub taking_up : ℕ → Part → Part
taking_up delta p = record { pair = p.pair; entries = p.entries; delta = bit_xor p.delta delta; dirty = true }

-- Later parts of a kind are taken out. The part before each one is set, since its tail changes, and takes up the delta.
unfoldable pub drop_later : (Part → Bool) → Part → List Part → Directory
drop_later goes p [] = record { first = p; more = [] }
drop_later goes p (q ∷ qs) = if goes q then drop_later goes (taking_up q.delta p) qs else behind p (drop_later goes q qs)

-- the part has an entry of that name, and nothing else
abbrev pub has_only : Name → Part → Bool
has_only n p = has_name n p && length (without n p.entries) == 0

-- the later parts of a directory that have no entry once that of a name is taken out
abbrev pub emptied_in : Name → Directory → List Part
emptied_in n d = filter (has_only n) d.more

-- The entry of a name is taken out: a later part that has no other entry leaves the directory; any other part that had it is set.
abbrev pub unlink_in : Name → Directory → Directory
unlink_in n d = each_part (λ p. touch (has_name n p) (without n) p) (drop_later (has_only n) d.first d.more)

-- an entry put into the part of the first entry with a greater name, else into the last part; that part is set
unfoldable pub link_parts : Entry → Part → List Part → Directory
link_parts e p [] = record { first = touch true (place e) p; more = [] }
link_parts e p (q ∷ ps) =
    if has_greater e.name p
    then record { first = touch true (place e) p; more = q ∷ ps }
    else behind p (link_parts e q ps)

abbrev pub link_in : Entry → Directory → Directory
link_in e d = link_parts e d.first d.more

-- the last part set, for the sake of its tail
unfoldable pub touch_last_of : Part → List Part → Directory
touch_last_of p [] = record { first = touch true (λ es. es) p; more = [] }
touch_last_of p (q ∷ ps) = behind p (touch_last_of q ps)

abbrev pub touch_last : Directory → Directory
touch_last d = touch_last_of d.first d.more

-- the last part set, for the sake of its tail and of a delta that it takes up
unfoldable pub absorb_in : ℕ → Part → List Part → Directory
absorb_in delta p [] = record { first = taking_up delta p; more = [] }
absorb_in delta p (q ∷ ps) = behind p (absorb_in delta q ps)

-- a directory whose last part takes up the deltas of one that goes
abbrev pub absorb : Directory → Directory → Directory
absorb d gone = absorb_in (delta_of (parts gone)) d.first d.more
