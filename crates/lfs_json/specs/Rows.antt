-- Rows as JSON (own).
use Rattle.std.specs.Prelude.{ℕ, List, [], ◌∷◌, ◌++◌, if◌then◌else◌, map, codes}
use Rattle.json.specs.Json.{Json, string}
use Rattle.lfs_meta.specs.Attribute.{Attributes}
use Rattle.lfs_fs.specs.Path.{Path, path_text}
use Rattle.lfs_fs.specs.Entry.{Entry, leads, body_length}
use Rattle.lfs_json.specs.Object.{Member, object_of, array_of, integer, digits, bytes_member}

-- what stands at a path
abbrev pub kind_word : Entry → List ℕ
kind_word e = if leads e then codes "directory" else codes "file"

-- a file's size; a directory has none
abbrev pub size_members : Entry → List Member
size_members e = if leads e then [] else (codes "size", integer (body_length e.body)) ∷ []

-- a path: as it is where it is UTF-8, else in hexadecimal digits
abbrev pub path_member : Path → Member
path_member p = bytes_member (codes "path") (codes "path_hex") (path_text p)

-- what stands at a path, without its attributes
abbrev pub entry_members : Path → Entry → List Member
entry_members p e = (codes "kind", string (kind_word e)) ∷ (size_members e ++ path_member p ∷ [])

-- an attribute: its value in hexadecimal digits
abbrev pub attribute_json : ℕ × List ℕ → Json
attribute_json (kind, value) = object_of ((codes "kind", integer kind) ∷ (codes "value", digits value) ∷ [])

-- attributes, where there are any
abbrev pub attribute_members : Attributes → List Member
attribute_members [] = []
attribute_members (a ∷ more) = (codes "attributes", array_of (map attribute_json (a ∷ more))) ∷ []

-- what stands at a path, with its attributes
abbrev pub row_members : Path → Entry → List Member
row_members p e = entry_members p e ++ attribute_members e.attributes

-- the object of what stands at a path
abbrev pub json_of_row : Path → Entry → Json
json_of_row p e = object_of (row_members p e)

-- the digest of a file's contents
abbrev pub digest_member : List ℕ → Member
digest_member digest = (codes "sha256", digits digest)

-- the object of a row, with the digest of its contents
abbrev pub json_of_digested : Path → Entry → List ℕ → Json
json_of_digested p e digest = object_of (row_members p e ++ digest_member digest ∷ [])

-- what has changed of it, in front
abbrev pub change_member : List ℕ → Member
change_member change = (codes "change", string change)

-- the object of a row that only one of two images has, or that both have otherwise
abbrev pub json_of_change : List ℕ → Path → Entry → Json
json_of_change change p e = object_of (change_member change ∷ row_members p e)

-- that of a row of which only the contents differ, without its attributes
abbrev pub json_of_contents : List ℕ → Path → Entry → Json
json_of_contents change p e = object_of (change_member change ∷ entry_members p e)
