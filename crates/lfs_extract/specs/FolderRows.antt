-- The rows of a host's folder: what stands at each path below it (own).
use Rattle.std.specs.Prelude.{◌≡◌, ◌≢◌, ◌⊎◌, ℕ, ◌+◌, ◌<◌, List, [], ◌∷◌, ◌++◌, Option, Some, None, ⊤, length, take, map, All, Contains, IfSome, option_map}
use Rattle.lfs_meta.specs.Name.{Name}
use Rattle.lfs_fs.specs.Path.{Path, path_text}
use Rattle.lfs_fs.specs.Ordered.{PathsRise}
use Rattle.lfs_extract.specs.declared.folder_row.FolderRow.{FolderRow}
use Rattle.lfs_extract.specs.declared.folder_fault.FolderFault.{FolderFault}
use Rattle.lfs_extract.specs.declared.folder_fault.FolderFault.TheVariants.{Memory, HostEntry, HostName, CannotRead}
use Rattle.lfs_host.specs.HostTree.{HostNode, NothingThere, FileOf, FolderOf, OtherThere, HostTree}
use Rattle.lfs_host.specs.Scene.{HasRefusedEntry, Scene}
use Rattle.lfs_extract.specs.HostNames.{IsHostName}
use Rattle.lfs_extract.specs.PathBelow.{name_in, host_name}

-- ---- rows by their paths

-- a path, with the bytes of a file; none where a folder stands there
pub record PathRow : Type 0 where
  pub path : Path
  pub bytes : Option (List ℕ)

abbrev pub folder_row : Path → PathRow
folder_row path = record { path = path; bytes = None }

abbrev pub paths_of : List PathRow → List Path
paths_of rows = map (λ r. r.path) rows

-- a row has this text and these bytes
abbrev pub IsRow : FolderRow → List ℕ → Option (List ℕ) → Type 0
IsRow row text bytes = (row.path.items ≡ text) × (option_map (λ b. b.items) row.bytes ≡ bytes)

-- rows spell their paths
abbrev pub AreSpelled : List FolderRow → List PathRow → Type 0
AreSpelled [] [] = ⊤
AreSpelled [] (r ∷ rs) = ⊥
AreSpelled (row ∷ rows) [] = ⊥
AreSpelled (row ∷ rows) (r ∷ rs) = IsRow row (path_text r.path) r.bytes × AreSpelled rows rs

-- the root, or a name in a folder that has a row
abbrev pub IsInside : List PathRow → Path → Type 0
IsInside rows path = (path ≡ []) ⊎ ((folder : Path) × (n : Name) × (path ≡ folder ++ n ∷ []) × Contains rows (folder_row folder))

-- the root first, and rows in the order of paths, each in a folder that has a row
pub record AreFolderRows (rows : List PathRow) : Type 0 where
  pub rest : List PathRow
  pub root : rows ≡ folder_row [] ∷ rest
  pub rise : PathsRise (paths_of rows)
  pub fit : All (λ p. All IsHostName p) (paths_of rows)
  pub inside : All (λ p. IsInside rows p) (paths_of rows)

-- ---- rows of a known host

-- each name of a path is in the folder of those before it
abbrev pub IsBelow : HostTree → List ℕ → Path → Type 0
IsBelow tree name [] = ⊤
IsBelow tree name (n ∷ path) = (names : List Name) × (tree name ≡ FolderOf names) × Contains names n × IsBelow tree (name_in name n) path

-- a file's bytes, `most` of them and one more at most; none of a folder
abbrev pub Shows : ℕ → HostNode → Option (List ℕ) → Type 0
Shows most (FileOf complete) bytes = bytes ≡ Some (take (most + 1) complete)
Shows most (FolderOf names) bytes = bytes ≡ None
Shows most NothingThere bytes = ⊥
Shows most OtherThere bytes = ⊥

-- a row is below a folder, and is what stands there
abbrev pub IsRight : ℕ → HostTree → List ℕ → PathRow → Type 0
IsRight most tree dir row = IsBelow tree dir row.path × Shows most (tree (host_name dir row.path)) row.bytes

-- rows of all that is below a folder, and of nothing else
pub record AreAllBelow (most : ℕ) (tree : HostTree) (dir : List ℕ) (rows : List PathRow) : Type 0 where
  pub right : All (IsRight most tree dir) rows
  pub complete : (path : Path) → IsBelow tree dir path → Contains (paths_of rows) path

-- ---- what is read

-- the rows of a host's folder
pub record IsFolder (most : ℕ) (known : Option HostTree) (dir : List ℕ) (rows : List FolderRow) : Type 0 where
  pub shown : List PathRow
  pub spelled : AreSpelled rows shown
  pub ordered : AreFolderRows shown
  pub all : IfSome known (λ tree. AreAllBelow most tree dir shown)

-- why a known host's folder isn't read; a host may refuse for reasons of its own
abbrev pub RefusesHostTree : HostTree → List ℕ → FolderFault → Type 0
RefusesHostTree tree dir HostEntry = (path : Path) × IsBelow tree dir path × (path ≢ []) × (tree (host_name dir path) ≡ OtherThere)
RefusesHostTree tree dir HostName = (path : Path) × (n : Name) × IsBelow tree dir (path ++ n ∷ []) × ¬ IsHostName n
RefusesHostTree tree dir Memory = ⊤
RefusesHostTree tree dir CannotRead = ⊤

-- the same, where the host is known
abbrev pub RefusesFolderRows : Option HostTree → List ℕ → FolderFault → Type 0
RefusesFolderRows known dir fault = IfSome known (λ tree. RefusesHostTree tree dir fault)

-- ---- what can't be read

-- something has a name below a folder, and nothing is under it
abbrev pub HasGap : HostTree → List ℕ → Type 0
HasGap tree dir = (path : Path) × IsBelow tree dir path × (path ≢ []) × (tree (host_name dir path) ≡ NothingThere)

-- more rows than the largest image has, where each takes 9 bytes at least in each block of a pair
abbrev pub most_rows : ℕ
most_rows = 4194304

-- more paths than so many rows are below a folder, the folder itself among them
abbrev pub HasTooMany : HostTree → List ℕ → Type 0
HasTooMany tree dir = (paths : List Path) × PathsRise paths × All (IsBelow tree dir) paths × (most_rows < length paths)

-- the host has refused to read something below a folder, or the folder
abbrev pub HasRefusedBelow : HostTree → List ℕ → Scene → Type 0
HasRefusedBelow tree dir new = (path : Path) × IsBelow tree dir path × HasRefusedEntry new (host_name dir path)

-- why not all can be read: the host has refused that, or it names what isn't there, or more than an image can hold
abbrev pub IsUnreadable : HostTree → List ℕ → Scene → Type 0
IsUnreadable tree dir new = HasRefusedBelow tree dir new ⊎ HasGap tree dir ⊎ HasTooMany tree dir

-- `CannotRead` comes only then, if the host is known
abbrev pub BlamesHost : Option HostTree → List ℕ → Scene → FolderFault → Type 0
BlamesHost known dir new CannotRead = IfSome known (λ tree. IsUnreadable tree dir new)
BlamesHost known dir new _ = ⊤
