-- The tags that carry a pair from one part to another (own, within what SPEC.md, "Metadata types", leaves open).
use Rattle.std.specs.Prelude.{ℕ, ◌+◌, ◌*◌, ◌^◌, ◌==◌, ◌&&◌, not, nat_lt, Bool, true, false, List, [], ◌∷◌, ◌++◌, Option, Some, None}
use Rattle.std.specs.Prelude.{if◌then◌else◌, bytes_eq}
use Rattle.std.specs.List.{list_any}
use Rattle.lfs_tag.specs.Commit.{Item}
use Rattle.lfs_meta.specs.declared.tail.Tail.{Tail}
use Rattle.lfs_meta.specs.declared.tail.Tail.TheVariants.{End, Soft, Hard}
use Rattle.lfs_meta.specs.Attribute.{Attributes}
use Rattle.lfs_meta.specs.Body.{StoredBody, Inline, Chain, Directory_at, words}
use Rattle.lfs_meta.specs.Entry.{StoredEntry}
use Rattle.lfs_meta.specs.Name.{Name}
use Rattle.lfs_meta.specs.Part.{StoredPart}
use Rattle.lfs_pair.specs.Spelling.{name_kind, tag_item, body_item, attribute_item, entry_tags}

-- What is written even where it stays the same: nothing, the struct of the entry of a name, or the value of a kind among the
-- attributes of one. No name is the superblock's.
pub data Forced : Type 0 where
  Nothing : Forced
  Struct : (name : Option Name) → Forced
  Value : (name : Option Name) (kind : ℕ) → Forced

-- whether an entry has a name, where no name is the superblock's
unfoldable pub is_called : Option Name → StoredEntry → Bool
is_called None e = name_kind e.kind == 0x0ff
is_called (Some name) e = not (name_kind e.kind == 0x0ff) && bytes_eq name e.name

-- whether an entry's struct is
unfoldable pub is_struct_forced : Forced → StoredEntry → Bool
is_struct_forced Nothing e = false
is_struct_forced (Struct name) e = is_called name e
is_struct_forced (Value name kind) e = false

-- the kind of the value that is forced of an entry's
unfoldable pub forced_value : Forced → StoredEntry → Option ℕ
forced_value Nothing e = None
forced_value (Struct name) e = None
forced_value (Value name kind) e = if is_called name e then Some kind else None

-- whether a kind is the one whose value is forced
abbrev pub is_forced : Option ℕ → ℕ → Bool
is_forced None kind = false
is_forced (Some forced) kind = forced == kind

-- ---- what becomes of entries

-- an entry goes, one stays as another of its kind and name, or one comes
pub data Fate : Type 0 where
  Goes : (old : StoredEntry) → Fate
  Stays : (old new : StoredEntry) → Fate
  Comes : (new : StoredEntry) → Fate

-- whether two entries are of one kind and have one name
abbrev pub is_same_name : StoredEntry → StoredEntry → Bool
is_same_name e f = (name_kind e.kind == name_kind f.kind) && bytes_eq e.name f.name

-- The fates of entries that become others: the first old one stays as the first new one where that has its name; else it waits for
-- its name, or goes where no new one has it.
unfoldable pub fates : List StoredEntry → List StoredEntry → List Fate
fates [] [] = []
fates [] (f ∷ fs) = Comes f ∷ fates [] fs
fates (e ∷ es) [] = Goes e ∷ fates es []
fates (e ∷ es) (f ∷ fs) =
    if is_same_name e f then Stays e f ∷ fates es fs
    else if list_any (is_same_name e) fs then Comes f ∷ fates (e ∷ es) fs
    else Goes e ∷ fates es (f ∷ fs)

-- the old entries of fates, and the new ones
unfoldable pub olds : List Fate → List StoredEntry
olds [] = []
olds (Goes e ∷ more) = e ∷ olds more
olds (Stays e f ∷ more) = e ∷ olds more
olds (Comes f ∷ more) = olds more

unfoldable pub news : List Fate → List StoredEntry
news [] = []
news (Goes e ∷ more) = news more
news (Stays e f ∷ more) = f ∷ news more
news (Comes f ∷ more) = f ∷ news more

-- ---- one entry that stays

unfoldable pub is_same_body : StoredBody → StoredBody → Bool
is_same_body (Inline bytes) (Inline others) = bytes_eq bytes others
is_same_body (Chain head size) (Chain other len) = (head == other) && (size == len)
is_same_body (Directory_at first second) (Directory_at one two) = (first == one) && (second == two)
is_same_body _ _ = false

-- a tag that marks an attribute deleted
abbrev pub gone_item : ℕ → ℕ → Item
gone_item id kind = record { word = (0x300 + kind) * 2 ^ 20 + id * 2 ^ 10 + 0x3ff; content = [] }

-- the tag of an attribute that was there, where its value changes or is forced
abbrev pub value_tags : Option ℕ → ℕ → ℕ × List ℕ → ℕ × List ℕ → List Item
value_tags forced id old new = if bytes_eq old.1 new.1 && not (is_forced forced new.0) then [] else attribute_item id new ∷ []

-- the tags that carry attributes that rise by kind to others
unfoldable pub attributes_between : Option ℕ → ℕ → Attributes → Attributes → List Item
attributes_between forced id [] [] = []
attributes_between forced id [] (y ∷ ys) = attribute_item id y ∷ attributes_between forced id [] ys
attributes_between forced id (x ∷ xs) [] = gone_item id x.0 ∷ attributes_between forced id xs []
attributes_between forced id (x ∷ xs) (y ∷ ys) =
    if nat_lt x.0 y.0 then gone_item id x.0 ∷ attributes_between forced id xs (y ∷ ys)
    else if nat_lt y.0 x.0 then attribute_item id y ∷ attributes_between forced id (x ∷ xs) ys
    else value_tags forced id x y ++ attributes_between forced id xs ys

-- the tag of a struct, where it changes or is forced
abbrev pub body_tags : Bool → ℕ → StoredEntry → StoredEntry → List Item
body_tags forced id old new = if is_same_body old.body new.body && not forced then [] else body_item id new ∷ []

-- the tags that carry an entry to one of the same name
abbrev pub entry_between : Forced → ℕ → StoredEntry → StoredEntry → List Item
entry_between forced id old new =
    body_tags (is_struct_forced forced new) id old new
    ++ attributes_between (forced_value forced new) id old.attributes new.attributes

-- ---- all entries

-- an entry created
abbrev pub create_item : ℕ → Item
create_item id = tag_item 0x401 id []

-- an entry deleted
abbrev pub delete_item : ℕ → Item
delete_item id = tag_item 0x4ff id []

-- the entries that go, deleted, the first of all under this id
unfoldable pub deletes : ℕ → List Fate → List Item
deletes id [] = []
deletes id (Goes e ∷ more) = delete_item id ∷ deletes id more
deletes id (Stays e f ∷ more) = deletes (id + 1) more
deletes id (Comes f ∷ more) = deletes id more

-- once these are gone: the entries that come, and what changes of those that stay
unfoldable pub puts : Forced → ℕ → List Fate → List Item
puts forced id [] = []
puts forced id (Goes e ∷ more) = puts forced id more
puts forced id (Stays e f ∷ more) = entry_between forced id e f ++ puts forced (id + 1) more
puts forced id (Comes f ∷ more) = create_item id ∷ (entry_tags id f ++ puts forced (id + 1) more)

-- ---- a part

unfoldable pub is_same_tail : Tail → Tail → Bool
is_same_tail End End = true
is_same_tail (Soft first second) (Soft one two) = (first == one) && (second == two)
is_same_tail (Hard first second) (Hard one two) = (first == one) && (second == two)
is_same_tail _ _ = false

-- the tag of a tail; the end of a thread is two null pointers
unfoldable pub tail_item : Tail → Item
tail_item End = tag_item 0x600 0x3ff (words 0xffffffff 0xffffffff)
tail_item (Soft first second) = tag_item 0x600 0x3ff (words first second)
tail_item (Hard first second) = tag_item 0x601 0x3ff (words first second)

-- a tail's tag, where it changes
abbrev pub tail_between : Tail → Tail → List Item
tail_between old new = if is_same_tail old new then [] else tail_item new ∷ []

-- a delta's tag, where it changes
abbrev pub delta_between : List ℕ → List ℕ → List Item
delta_between old new = if bytes_eq old new then [] else tag_item 0x7ff 0x3ff new ∷ []

-- the tags that carry entries to others
abbrev pub entries_between : Forced → List StoredEntry → List StoredEntry → List Item
entries_between forced old new = deletes 0 (fates old new) ++ puts forced 0 (fates old new)

-- The tags that carry a part to another: of the entries that go, those that come and those that stay, then of the tail and of the delta.
abbrev pub part_between : Forced → StoredPart → StoredPart → List Item
part_between forced old new =
    entries_between forced old.entries new.entries ++ tail_between old.tail new.tail ++ delta_between old.delta new.delta
