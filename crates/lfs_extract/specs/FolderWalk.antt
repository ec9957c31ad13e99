-- A walk over what is below a host's folder: rows that are shown, and paths that wait (own).
use Rattle.std.specs.Prelude.{◌≡◌, ℕ, List, [], ◌∷◌, ◌++◌, Option, None, ⊤, map, All, Contains, IfSome}
use Rattle.lfs_meta.specs.Name.{Name}
use Rattle.lfs_fs.specs.Path.{Path}
use Rattle.lfs_fs.specs.Ordered.{PathsRise, AreApart}
use Rattle.lfs_extract.specs.declared.folder_row.FolderRow.{FolderRow}
use Rattle.lfs_extract.specs.declared.folder_fault.FolderFault.{FolderFault}
use Rattle.lfs_extract.specs.declared.folder_fault.FolderFault.TheVariants.{Memory, HostEntry, HostName, CannotRead}
use Rattle.lfs_host.specs.HostTree.{FolderOf, HostTree, Lists}
use Rattle.lfs_host.specs.Scene.{HasRefusedEntry, Scene}
use Rattle.lfs_extract.specs.HostNames.{IsHostName, NamesAreInOrder}
use Rattle.lfs_extract.specs.PathBelow.{name_in, host_name, text_below}
use Rattle.lfs_extract.specs.FolderRows.{PathRow, folder_row, paths_of, IsRow, AreSpelled, IsInside, IsBelow, IsRight}

-- ---- the state of a walk

-- each name in a folder that is shown was met
abbrev pub IsMet : HostTree → List ℕ → List Path → PathRow → Type 0
IsMet tree dir met row = (names : List Name) → tree (host_name dir row.path) ≡ FolderOf names → (n : Name) → Contains names n
    → Contains met (row.path ++ n ∷ [])

-- what is shown and what waits are below a folder of a known host
pub record IsTreeWalk (most : ℕ) (dir : List ℕ) (shown : List PathRow) (queue : List Path) (tree : HostTree) : Type 0 where
  pub right : All (IsRight most tree dir) shown
  pub waits : All (IsBelow tree dir) queue
  pub met : All (IsMet tree dir (paths_of shown ++ queue)) shown

-- rows in order, the root first, and then the paths that wait, each in a folder that is shown
pub record IsWalk (most : ℕ) (known : Option HostTree) (dir : List ℕ) (shown : List PathRow) (queue : List Path) : Type 0 where
  pub rest : List PathRow
  pub root : shown ≡ folder_row [] ∷ rest
  pub rise : PathsRise (paths_of shown ++ queue)
  pub distinct : AreApart queue
  pub fit : All (λ p. All IsHostName p) (paths_of shown ++ queue)
  pub inside : All (λ p. IsInside shown p) (paths_of shown ++ queue)
  pub all : IfSome known (λ tree. IsTreeWalk most dir shown queue tree)

-- rows are shown, and paths wait, under the host's names
pub record IsFolderWalk (most : ℕ) (known : Option HostTree) (dir : List ℕ) (rows : List FolderRow) (waiting : List (List ℕ)) : Type 0 where
  pub shown : List PathRow
  pub queue : List Path
  pub spelled : AreSpelled rows shown
  pub names : waiting ≡ map (host_name dir) queue
  pub walk : IsWalk most known dir shown queue

-- ---- steps of a walk

-- a row with this text and these bytes is put behind others
abbrev pub ShowsMore : List ℕ → Option (List ℕ) → List FolderRow → List FolderRow → Type 0
ShowsMore text bytes rows longer = (row : FolderRow) × (longer ≡ rows ++ row ∷ []) × IsRow row text bytes

-- a folder is shown, and the names in it are put before what waits
pub record EntersFolder (known : Option HostTree) (len : ℕ) (folder : List ℕ) (rows longer : List FolderRow)
    (waiting more : List (List ℕ)) : Type 0 where
  pub names : List Name
  pub listed : Lists known folder names
  pub rise : NamesAreInOrder names
  pub fit : All IsHostName names
  pub shows : ShowsMore (text_below len folder) None rows longer
  pub waits : more ≡ map (name_in folder) names ++ waiting

-- a folder has a name that can't be one in an image
abbrev pub HasBadName : HostTree → List ℕ → Type 0
HasBadName tree folder = (names : List Name) × (n : Name) × (tree folder ≡ FolderOf names) × Contains names n × ¬ IsHostName n

-- why a folder of a known host isn't entered
abbrev pub RefusesFolder : List ℕ → FolderFault → HostTree → Type 0
RefusesFolder folder HostName tree = HasBadName tree folder
RefusesFolder folder HostEntry tree = ⊥
RefusesFolder folder Memory tree = ⊤
RefusesFolder folder CannotRead tree = ⊤

-- a known host's folder isn't entered, as one that can't be read, only if the host has refused to list it
abbrev pub IsHostBlamed : Option HostTree → List ℕ → Scene → FolderFault → Type 0
IsHostBlamed known folder new CannotRead = IfSome known (λ tree. HasRefusedEntry new folder)
IsHostBlamed known folder new _ = ⊤
