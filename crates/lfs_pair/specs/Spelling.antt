-- The tags that a part is written as (SPEC.md, "Metadata types"; their order is own).
use Rattle.std.specs.Prelude.{ℕ, ◌+◌, ◌*◌, ◌==◌, ◌^◌, List, [], ◌∷◌, ◌++◌, length, map, if◌then◌else◌}
use Rattle.std.specs.List.{list_all}
use Rattle.lfs_tag.specs.Commit.{Item}
use Rattle.lfs_meta.specs.declared.kind.Kind.{Kind}
use Rattle.lfs_meta.specs.declared.kind.Kind.TheVariants.{File, Dir, Super}
use Rattle.lfs_meta.specs.declared.tail.Tail.{Tail}
use Rattle.lfs_meta.specs.declared.tail.Tail.TheVariants.{End, Soft, Hard}
use Rattle.lfs_meta.specs.Body.{StoredBody, Inline, Chain, Directory_at, words, body_bytes}
use Rattle.lfs_meta.specs.Entry.{StoredEntry}
use Rattle.lfs_meta.specs.Part.{StoredPart}

-- the type of a name's tag
abbrev pub name_kind : Kind → ℕ
name_kind File = 0x001
name_kind Dir = 0x002
name_kind Super = 0x0ff

-- the type of a struct's tag
abbrev pub body_kind : StoredBody → ℕ
body_kind (Inline bytes) = 0x201
body_kind (Chain head size) = 0x202
body_kind (Directory_at first second) = 0x200

-- a tag of this type and id, with its data
abbrev pub tag_item : ℕ → ℕ → List ℕ → Item
tag_item kind id bytes = record { word = kind * 2 ^ 20 + id * 2 ^ 10 + length bytes; content = bytes }

-- an entry's name
abbrev pub name_item : ℕ → StoredEntry → Item
name_item id e = tag_item (name_kind e.kind) id e.name

-- an entry's struct
abbrev pub body_item : ℕ → StoredEntry → Item
body_item id e = tag_item (body_kind e.body) id (body_bytes e.body)

-- one of an entry's attributes
abbrev pub attribute_item : ℕ → ℕ × List ℕ → Item
attribute_item id a = tag_item (0x300 + a.0) id a.1

-- an entry: its name, its struct, its attributes
abbrev pub entry_tags : ℕ → StoredEntry → List Item
entry_tags id e = name_item id e ∷ body_item id e ∷ map (attribute_item id) e.attributes

-- entries one after another, the first of them under this id
unfoldable pub entries_tags : ℕ → List StoredEntry → List Item
entries_tags id [] = []
entries_tags id (e ∷ es) = entry_tags id e ++ entries_tags (id + 1) es

-- a tail, under the id of no entry; a thread's end has no tag
abbrev pub tail_tags : Tail → List Item
tail_tags End = []
tail_tags (Soft first second) = tag_item 0x600 0x3ff (words first second) ∷ []
tail_tags (Hard first second) = tag_item 0x601 0x3ff (words first second) ∷ []

-- a delta, under the id of no entry; one of zeros has no tag
abbrev pub delta_tags : List ℕ → List Item
delta_tags delta = if list_all (λ b. b == 0) delta then [] else tag_item 0x7ff 0x3ff delta ∷ []

-- a part: its entries, its tail, its delta
abbrev pub part_tags : StoredPart → List Item
part_tags p = entries_tags 0 p.entries ++ tail_tags p.tail ++ delta_tags p.delta
