-- What a host has under each name, where that is known (own).
use Rattle.std.specs.Prelude.{◌≡◌, ℕ, ◌+◌, List, Option, Some, None, ⊤, take, All, Contains}
use Rattle.std.specs.List.{IsDistinct}
use Rattle.std.specs.Str.{IsUtf8, bytes_eq}
use Rattle.lfs_host.specs.declared.host_kind.HostKind.{HostKind}
use Rattle.lfs_host.specs.declared.host_kind.HostKind.TheVariants.{Missing, File, Folder, Other}
use Rattle.lfs_host.specs.declared.list_fault.ListFault.{ListFault}
use Rattle.lfs_host.specs.declared.list_fault.ListFault.TheVariants.{Memory, NotText, CannotRead}

-- nothing, a regular file with its bytes, a folder with the names in it, or something else, as a link
pub data HostNode : Type 0 where
  NothingThere : HostNode
  FileOf : (bytes : List ℕ) → HostNode
  FolderOf : (names : List (List ℕ)) → HostNode
  OtherThere : HostNode

-- what there is under each name
abbrev pub HostTree : Type 0
HostTree = List ℕ → HostNode

abbrev pub host_kind_of : HostNode → HostKind
host_kind_of NothingThere = Missing
host_kind_of (FileOf bytes) = File
host_kind_of (FolderOf names) = Folder
host_kind_of OtherThere = Other

-- of what kind it is
abbrev pub IsKind : Option HostTree → List ℕ → HostKind → Type 0
IsKind None name kind = ⊤
IsKind (Some tree) name kind = kind ≡ host_kind_of (tree name)

-- these are the names in a folder, each once, in any order
pub record AreNamesIn (there listed : List (List ℕ)) : Type 0 where
  pub right : All (λ n. Contains there n) listed
  pub complete : All (λ n. Contains listed n) there
  pub once : IsDistinct bytes_eq listed

-- what is listed of a folder
abbrev pub Lists : Option HostTree → List ℕ → List (List ℕ) → Type 0
Lists None name listed = ⊤
Lists (Some tree) name listed = (names : List (List ℕ)) × (tree name ≡ FolderOf names) × AreNamesIn names listed

-- a folder has a name that isn't UTF-8
abbrev pub HasOtherThanText : HostTree → List ℕ → Type 0
HasOtherThanText tree name = (names : List (List ℕ)) × (n : List ℕ) × (tree name ≡ FolderOf names) × Contains names n × ¬ IsUtf8 n

-- why nothing is listed; a host may refuse for reasons of its own
abbrev pub CannotList : Option HostTree → List ℕ → ListFault → Type 0
CannotList (Some tree) name NotText = HasOtherThanText tree name
CannotList (Some tree) name Memory = ⊤
CannotList (Some tree) name CannotRead = ⊤
CannotList None name fault = ⊤

-- what is read of a file: `most` bytes and one more at most
abbrev pub ReadsEntry : Option HostTree → List ℕ → ℕ → List ℕ → Type 0
ReadsEntry None name most bytes = ⊤
ReadsEntry (Some tree) name most bytes = (complete : List ℕ) × (tree name ≡ FileOf complete) × (bytes ≡ take (most + 1) complete)
