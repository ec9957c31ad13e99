-- Which blocks something takes, as JSON (own).
use Rattle.std.specs.Prelude.{ℕ, List, [], ◌∷◌, ◌++◌, Option, Some, None, codes, decimal}
use Rattle.json.specs.Json.{Json, string}
use Rattle.json.specs.Print.{print}
use Rattle.lfs_fs.specs.Row.{Row}
use Rattle.lfs_json.specs.Object.{Member, object_of, integer}
use Rattle.lfs_json.specs.Written.{begun}
use Rattle.lfs_json.specs.Rows.{kind_word, path_member}

-- what takes blocks: what stands at a path, or nothing
abbrev pub user_members : Option Row → List Member
user_members None = (codes "kind", string (codes "free")) ∷ []
user_members (Some r) = (codes "kind", string (kind_word r.entry)) ∷ path_member r.path ∷ []

-- the object of what takes so many blocks
abbrev pub json_of_sum : Option Row → ℕ → Json
json_of_sum u n = object_of (user_members u ++ (codes "blocks", integer n) ∷ [])

-- that of what takes the blocks from the first to the last one
abbrev pub json_of_run : Option Row → ℕ → ℕ → Json
json_of_run u first last = object_of (user_members u ++ (codes "first", integer first) ∷ (codes "last", integer last) ∷ [])

-- the front of that object, as far as it says what takes the blocks
abbrev pub user_front : Option Row → List ℕ
user_front u = print (begun (user_members u))

-- and the rest of its line
abbrev pub run_rest : ℕ → ℕ → List ℕ
run_rest first last = codes ",\"first\":" ++ (decimal first ++ (codes ",\"last\":" ++ (decimal last ++ codes "}\n")))
