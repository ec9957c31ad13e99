-- What there is under each name among files in memory: in a file's name a slash stands behind that of each folder (own).
use Rattle.std.specs.Prelude.{◌≡◌, ◌≢◌, ◌==◌, ℕ, List, [], ◌∷◌, ◌++◌, Option, Some, None, String, if◌then◌else◌, map, string_bytes, Contains}
use Rattle.std.specs.BTreeMap.{BTreeMap, keys}
use Rattle.std.specs.Global.{Vec}
use Rattle.std.specs.List.{before_first, filter_map}
use Rattle.std.specs.Option.{option_map}
use Rattle.lfs_host.specs.HostTree.{HostNode, FileOf, FolderOf, NothingThere, HostTree}
use Rattle.lfs_host.specs.MemoryFiles.{files_of}

-- what a file's name has behind a folder's name and a slash; nothing where the file isn't name_behind the folder
abbrev pub name_behind : List ℕ → List ℕ → Option (List ℕ)
name_behind [] [] = None
name_behind [] (b ∷ file) = if b == 47 then Some file else None
name_behind (a ∷ folder) [] = None
name_behind (a ∷ folder) (b ∷ file) = if a == b then name_behind folder file else None

-- the bytes in front of the first slash, or all where there is none
abbrev pub first_name : List ℕ → List ℕ
first_name = before_first (λ b. b == 47)

-- the name in a folder that a file's name leads through
abbrev pub name_through : List ℕ → List ℕ → Option (List ℕ)
name_through folder file = option_map first_name (name_behind folder file)

-- the names in a folder, those that files of these names lead through
abbrev pub names_through : List ℕ → List (List ℕ) → List (List ℕ)
names_through folder files = filter_map (name_through folder) files

-- a file, or else a folder where there are names in it, or else nothing
abbrev pub host_node_of : Option (List ℕ) → List (List ℕ) → HostNode
host_node_of (Some bytes) names = FileOf bytes
host_node_of None [] = NothingThere
host_node_of None (n ∷ names) = FolderOf (n ∷ names)

-- the names of the files that a map holds
abbrev pub file_names_of : {Y : Type 0} → BTreeMap (String Y) (Vec ℕ) → List (List ℕ)
file_names_of files = map (λ k. string_bytes k) (keys files)

-- what there is under each name: the file of the name, or a folder that some file is name_behind
abbrev pub tree_of : {Y : Type 0} → BTreeMap (String Y) (Vec ℕ) → HostTree
tree_of files name = host_node_of (files_of files name) (names_through name (file_names_of files))

-- what is named in a folder is there
abbrev pub HasNoGap : HostTree → Type 0
HasNoGap tree = (folder n : List ℕ) (names : List (List ℕ)) → tree folder ≡ FolderOf names → Contains names n → tree (folder ++ 47 ∷ n) ≢ NothingThere
