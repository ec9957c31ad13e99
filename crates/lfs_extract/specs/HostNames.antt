-- A host's names, and the order in which they stand in an image (own).
use Rattle.std.specs.Prelude.{◌≡◌, ◌≢◌, ◌==◌, ◌&&◌, ◌+◌, ◌<◌, ℕ, not, Bool, true, List, [], ◌∷◌, ⊤, All, Contains, length, slice_index_or}
use Rattle.std.specs.List.{list_any}
use Rattle.std.specs.List.Sorted.{IsPermutation, IsSortedBy}
use Rattle.std.specs.Str.{IsUtf8}
use Rattle.lfs_meta.specs.Name.{Name, IsName, is_name}
use Rattle.lfs_fs.specs.NameOrder.{precedes}
use Rattle.lfs_extract.specs.declared.folder_fault.FolderFault.{FolderFault}
use Rattle.lfs_extract.specs.declared.folder_fault.FolderFault.TheVariants.{Memory, HostEntry, HostName, CannotRead}

-- a name that an image may hold, of UTF-8 and with no byte of zero
pub record IsHostName (n : Name) : Type 0 where
  pub name : IsName n
  pub no_zero : All (λ b. b ≢ 0) n
  pub text : IsUtf8 n

-- whether UTF-8 is one
abbrev pub is_host_name : Name → Bool
is_host_name n = is_name n && not (list_any (λ b. b == 0) n)

-- each name comes before all later ones
abbrev pub NamesAreInOrder : List Name → Type 0
NamesAreInOrder [] = ⊤
NamesAreInOrder (n ∷ ns) = All (λ m. precedes n m ≡ true) ns × NamesAreInOrder ns

-- no name comes before the one in front of it
abbrev pub NoneFalls : List Name → Type 0
NoneFalls = IsSortedBy precedes

-- the same names, each once, in order
pub record AreInOrder (there sorted : List Name) : Type 0 where
  pub rise : NamesAreInOrder sorted
  pub fit : All IsHostName sorted
  pub same : IsPermutation there sorted

-- some name is there twice: in some order two neighbours are the same
abbrev pub IsTwiceIn : List Name → Type 0
IsTwiceIn there = (sorted : List Name) × (k : ℕ) × IsPermutation there sorted × (k + 1 < length sorted)
    × (slice_index_or sorted k [] ≡ slice_index_or sorted (k + 1) [])

-- why names aren't put in order
abbrev pub CannotOrder : List Name → FolderFault → Type 0
CannotOrder there HostName = (n : Name) × Contains there n × ¬ IsHostName n
CannotOrder there CannotRead = IsTwiceIn there
CannotOrder there Memory = ⊤
CannotOrder there HostEntry = ⊥
