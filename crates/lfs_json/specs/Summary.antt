-- What is said of an image in numbers, as JSON (own).
use Rattle.std.specs.Prelude.{ℕ, ◌*◌, ◌/◌, ◌%◌, List, [], ◌∷◌, ◌++◌, codes, decimal}
use Rattle.json.specs.Json.{Json, string}
use Rattle.lfs_fs.specs.declared.limits.Limits.{Limits}
use Rattle.lfs_json.specs.Object.{Member, object_of, integer}
use Rattle.lfs_json.specs.declared.summary.Summary.{Summary}

-- a disk version, whose major number is in the upper half
abbrev pub version_word : ℕ → List ℕ
version_word version = decimal (version / 65536) ++ (codes "." ++ decimal (version % 65536))

-- its blocks
abbrev pub block_members : Summary → List Member
block_members s =
    (codes "block", integer s.block) ∷ (codes "count", integer s.count) ∷ (codes "free", integer s.free) ∷ (codes "free_bytes", integer (s.free * s.block)) ∷ []

-- what it holds
abbrev pub tree_members : Summary → List Member
tree_members s = (codes "directories", integer s.directories) ∷ (codes "files", integer s.files) ∷ []

-- its limits
abbrev pub limit_members : Limits → List Member
limit_members limits =
    (codes "name_max", integer limits.name) ∷ (codes "file_max", integer limits.file) ∷ (codes "attr_max", integer limits.attribute) ∷ []

-- the longest file that stands in its entry
abbrev pub inline_member : Summary → Member
inline_member s = (codes "inline_longest", integer s.inline_longest)

-- its disk version, its limits, and that file
abbrev pub last_members : Summary → List Member
last_members s = (codes "version", string (version_word s.version)) ∷ (limit_members s.limits ++ inline_member s ∷ [])

-- the object of all
abbrev pub json_of_summary : Summary → Json
json_of_summary s = object_of (block_members s ++ (tree_members s ++ last_members s))

-- the object of an image's limits, where another one has others
abbrev pub json_of_limits : Limits → Json
json_of_limits limits = object_of ((codes "change", string (codes "limits")) ∷ limit_members limits)
