-- A host's names of paths below a folder (own).
use Rattle.std.specs.Prelude.{ℕ, List, [], ◌∷◌, ◌++◌, drop, flat_map}
use Rattle.lfs_meta.specs.Name.{Name}
use Rattle.lfs_fs.specs.Path.{Path}

-- the host's name of what has a name in a folder
abbrev pub name_in : List ℕ → Name → List ℕ
name_in folder n = folder ++ 47 ∷ n

-- the host's name of a path below a folder: a slash before each name
abbrev pub host_name : List ℕ → Path → List ℕ
host_name dir path = dir ++ flat_map (λ n. 47 ∷ n) path

-- the text, or one slash where there is none
abbrev pub or_root : List ℕ → List ℕ
or_root [] = 47 ∷ []
or_root (b ∷ bs) = b ∷ bs

-- the text of the path that a host's name has behind a folder's name of this length
abbrev pub text_below : ℕ → List ℕ → List ℕ
text_below len name = or_root (drop len name)
