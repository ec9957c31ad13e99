-- What is made of the rows of an image in a folder of a host (own).
use Rattle.std.specs.Prelude.{◌≡◌, ◌≢◌, ◌⊎◌, ℕ, List, [], ◌∷◌, ◌++◌, Option, Some, None, Result, map, take, All, Contains, MatchResult}
use Rattle.std.specs.Str.{IsUtf8}
use Rattle.lfs_block.specs.Disk.{Disk}
use Rattle.lfs_meta.specs.Name.{Name}
use Rattle.lfs_fs.specs.Tree.{Node, File, Dir}
use Rattle.lfs_fs.specs.Row.{Row}
use Rattle.lfs_fs.specs.RowShown.{shown_node}
use Rattle.lfs_extract.specs.HostNames.{IsHostName}
use Rattle.lfs_extract.specs.PathBelow.{host_name}
use Rattle.lfs_host.specs.NewFolder.{Made, FolderMade, FileMade, Makes}
use Rattle.lfs_host.specs.Scene.{HasRefusedMade, Scene}
use Rattle.lfs_extract.specs.declared.extract_fault.ExtractFault.{ExtractFault}
use Rattle.lfs_extract.specs.declared.extract_fault.ExtractFault.TheVariants.{Memory, HostName, CannotWrite}

-- ---- what is made

-- what stands in a tree, under a host's name; attributes are left out
abbrev pub made_node : List ℕ → Node → Made
made_node name (File bytes attributes) = FileMade name bytes
made_node name (Dir attributes) = FolderMade name

-- of a row what it shows on a disk, under the name of a folder with a slash before each name of the row's path
abbrev pub made_of : Disk → List ℕ → Row → Made
made_of d dir r = made_node (host_name dir r.path) (shown_node d r.entry)

-- of each row
abbrev pub all_made : Disk → List ℕ → List Row → List Made
all_made d dir rows = map (made_of d dir) rows

-- a file with the first so many of its bytes; nothing of a folder
abbrev pub beginning : ℕ → Made → List Made
beginning n (FolderMade name) = []
beginning n (FileMade name bytes) = FileMade name (take n bytes) ∷ []

-- nothing is made of it, or a beginning
abbrev pub IsBegun : Made → List Made → Type 0
IsBegun m begun = (begun ≡ []) ⊎ ((n : ℕ) × (begun ≡ beginning n m))

-- it is made, or no more than a beginning of it
abbrev pub MakesOne : {T E : Type 0} → Result T E → Option (List Made) → Option (List Made) → Made → Type 0
MakesOne result old new m = MatchResult result (λ _. Makes old new (m ∷ [])) (λ _. (begun : List Made) × IsBegun m begun × Makes old new begun)

-- those before one of them were made, and of that one no more than a beginning
pub record MakesFront (old new : Option (List Made)) (complete : List Made) : Type 0 where
  pub prefix : List Made
  pub next : Made
  pub rest : List Made
  pub begun : List Made
  pub split : prefix ++ next ∷ rest ≡ complete
  pub is_begun : IsBegun next begun
  pub made : Makes old new (prefix ++ begun)

-- the host has refused to make one of them
abbrev pub HasRefusedOne : Scene → List Made → Type 0
HasRefusedOne scene complete = (m : Made) × Contains complete m × HasRefusedMade scene m

-- all of them, by what is answered; nothing if a name is refused, and otherwise those before one
abbrev pub Extracts : Option ExtractFault → Option (List Made) → Option (List Made) → List Made → Type 0
Extracts None old new complete = Makes old new complete
Extracts (Some HostName) old new complete = new ≡ old
Extracts (Some Memory) old new complete = MakesFront old new complete
Extracts (Some CannotWrite) old new complete = MakesFront old new complete

-- ---- names

-- UTF-8 with no byte of zero
pub record IsHostText (n : Name) : Type 0 where
  pub text : IsUtf8 n
  pub no_zero : All (λ b. b ≢ 0) n

-- each name of the paths is such a text
abbrev pub HaveTexts : List Row → Type 0
HaveTexts rows = All (λ r. All IsHostText r.path) rows

-- some name is none
abbrev pub HasOtherName : List Row → Type 0
HasOtherName rows = (r : Row) × (n : Name) × Contains rows r × Contains r.path n × ¬ IsHostText n

-- each path goes down from the folder: its names are not empty, hold no slash and no byte of zero, aren't `.` or `..`, and are UTF-8
abbrev pub StayBelow : List Row → Type 0
StayBelow rows = All (λ r. All IsHostName r.path) rows

-- a name is refused just where one is no host's text
abbrev pub JudgesNames : Option ExtractFault → List Row → Type 0
JudgesNames None rows = StayBelow rows
JudgesNames (Some HostName) rows = HasOtherName rows
JudgesNames (Some Memory) rows = StayBelow rows
JudgesNames (Some CannotWrite) rows = StayBelow rows
