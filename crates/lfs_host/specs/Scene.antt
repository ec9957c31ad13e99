-- What is known of a host (own).
use Rattle.std.specs.Prelude.{◌≡◌, ◌⊎◌, ℕ, Bool, true, false, List, ◌++◌, Option, Some, None, ⊤, Contains, IfSome, Result, Ok, Err}
use Rattle.lfs_host.specs.declared.lock.Lock.{Lock}
use Rattle.lfs_host.specs.declared.lock.Lock.TheVariants.{HeldByAnother}
use Rattle.lfs_host.specs.declared.list_fault.ListFault.{ListFault}
use Rattle.lfs_host.specs.declared.list_fault.ListFault.TheVariants as listing
use Rattle.lfs_host.specs.declared.read_fault.ReadFault.{ReadFault}
use Rattle.lfs_host.specs.declared.read_fault.ReadFault.TheVariants as reading
use Rattle.lfs_host.specs.Files.{Files}
use Rattle.lfs_host.specs.HostCall.{BeginningFile, EndingFile, FillingFile, HostCall, Listing, Looking, MakingFolder, ReadingEntry}
use Rattle.lfs_host.specs.HostTree.{HostTree}
use Rattle.lfs_host.specs.NewFolder.{FileMade, FolderMade, Made}

-- its files; what is left on standard input; what was printed, and how much of that was handed on; what there is under each name, if links
-- aren't followed; what was made in new folders so far, in order; the names that this run has claimed: it holds the lock of the file that
-- was there, or there was none; whether a lock was withheld from it, since another run holds it; whether it has read a file whose name it
-- hadn't claimed; and which calls the host has refused: each if it is known
pub record Scene : Type 0 where
  pub files : Option Files
  pub typed : Option (List ℕ)
  pub printed : Option (List ℕ)
  pub flushed : Option (List ℕ)
  pub tree : Option HostTree
  pub made : Option (List Made)
  pub claimed : Option (List (List ℕ))
  pub has_withheld : Option Bool
  pub has_read_unclaimed : Option Bool
  pub refused : Option (HostCall → Bool)

-- nothing is known
abbrev pub unknown : Scene
unknown = record {
  files = None;
  typed = None;
  printed = None;
  flushed = None;
  tree = None;
  made = None;
  claimed = None;
  has_withheld = None;
  has_read_unclaimed = None;
  refused = None;
}

-- ---- what a call keeps

-- files, what is left on standard input and what was printed are as they were
abbrev pub KeepsFiles : Scene → Scene → Type 0
KeepsFiles old new = (new.files ≡ old.files) × (new.typed ≡ old.typed) × (new.printed ≡ old.printed)

-- so are they, and what there is under each name, and what was made
abbrev pub KeepsSeen : Scene → Scene → Type 0
KeepsSeen old new = KeepsFiles old new × (new.tree ≡ old.tree) × (new.made ≡ old.made)

-- so are they all, and the names that are claimed
abbrev pub KeepsAll : Scene → Scene → Type 0
KeepsAll old new = KeepsFiles old new × (new.tree ≡ old.tree) × (new.made ≡ old.made) × (new.claimed ≡ old.claimed)

-- what was made, and the names that are claimed, are as they were
abbrev pub KeepsBeside : Scene → Scene → Type 0
KeepsBeside old new = (new.made ≡ old.made) × (new.claimed ≡ old.claimed)

-- so are they, and what is left on standard input and what was printed
abbrev pub KeepsText : Scene → Scene → Type 0
KeepsText old new = (new.typed ≡ old.typed) × (new.printed ≡ old.printed) × KeepsBeside old new

-- so are they, and files and what is left on standard input
abbrev pub KeepsInput : Scene → Scene → Type 0
KeepsInput old new = (new.files ≡ old.files) × (new.typed ≡ old.typed) × KeepsBeside old new

-- so are they, and files and what was printed
abbrev pub KeepsOutput : Scene → Scene → Type 0
KeepsOutput old new = (new.files ≡ old.files) × (new.printed ≡ old.printed) × KeepsBeside old new

-- files and what was printed are as they were
abbrev pub KeepsScene : Scene → Scene → Type 0
KeepsScene old new = (new.files ≡ old.files) × (new.printed ≡ old.printed)

-- ---- names that are claimed

-- this run has claimed a name, where that is known
abbrev pub HasClaimed : Scene → List ℕ → Type 0
HasClaimed scene name = IfSome scene.claimed (λ names. Contains names name)

-- a lock was withheld, where that is known
abbrev pub HasWithheld : Scene → Type 0
HasWithheld scene = IfSome scene.has_withheld (λ withheld. withheld ≡ true)

-- what asking for the lock of a file of a name leaves: the name is claimed where no other run holds the lock
abbrev pub Claims : Scene → List ℕ → Lock → Type 0
Claims new name HeldByAnother = HasWithheld new
Claims new name _ = HasClaimed new name

-- a name is claimed, or begins with one that is, as the name of a journal does with that of its image
abbrev pub IsCovered : Scene → List ℕ → Type 0
IsCovered scene name = (base rest : List ℕ) × (name ≡ base ++ rest) × HasClaimed scene base

-- no file is read whose name isn't claimed
abbrev pub KeepsTally : Scene → Scene → Type 0
KeepsTally old new = new.has_read_unclaimed ≡ old.has_read_unclaimed

-- ---- what the host refuses

-- a call was refused, if that is known
abbrev pub HasRefused : Scene → HostCall → Type 0
HasRefused scene call = IfSome scene.refused (λ of. of call ≡ true)

-- so was one that makes a folder or a file
abbrev pub HasRefusedMade : Scene → Made → Type 0
HasRefusedMade scene (FolderMade name) = HasRefused scene (MakingFolder name)
HasRefusedMade scene (FileMade name bytes) =
    HasRefused scene (BeginningFile name) ⊎ HasRefused scene FillingFile ⊎ HasRefused scene (EndingFile name)

-- so was one that reads what is under a name of a folder
abbrev pub HasRefusedEntry : Scene → List ℕ → Type 0
HasRefusedEntry scene name = HasRefused scene (Looking name) ⊎ HasRefused scene (Listing name) ⊎ HasRefused scene (ReadingEntry name)

-- what was refused before stays so
abbrev pub KeepsRefusals : Scene → Scene → Type 0
KeepsRefusals old new = (call : HostCall) → HasRefused old call → HasRefused new call

-- a call that the host refuses is noted, and no other
abbrev pub Notes : HostCall → Bool → Scene → Scene → Type 0
Notes call true old new = HasRefused new call × KeepsRefusals old new
Notes call false old new = new.refused ≡ old.refused

-- whether what failed did so since a host has refused a call, as far as that is known
abbrev pub is_blamed : Bool → Option (HostCall → Bool) → HostCall → Bool
is_blamed false refused call = true
is_blamed true None call = true
is_blamed true (Some of) call = of call

-- the host refuses to read
abbrev pub refuses_reading : ReadFault → Bool
refuses_reading reading.Memory = false
refuses_reading reading.CannotRead = true

-- it did
abbrev pub reading_refused : {T : Type 0} → Result T ReadFault → Bool
reading_refused (Ok value) = false
reading_refused (Err fault) = refuses_reading fault

-- the host refuses to list
abbrev pub refuses_listing : ListFault → Bool
refuses_listing listing.Memory = false
refuses_listing listing.NotText = false
refuses_listing listing.CannotRead = true

-- it did
abbrev pub listing_refused : {T : Type 0} → Result T ListFault → Bool
listing_refused (Ok value) = false
listing_refused (Err fault) = refuses_listing fault
