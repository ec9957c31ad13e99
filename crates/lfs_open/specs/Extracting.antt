-- What is made in a new folder of the host of what stands at a path of an image and below it (own).
use Rattle.std.specs.Prelude.{◌≡◌, ◌⊎◌, ℕ, Bool, true, false, List, Option, Some, None}
use Rattle.lfs_block.specs.Disk.{Disk, IsDisk, image_of}
use Rattle.lfs_block.specs.ImageFault.{IsNoImage}
use Rattle.lfs_fs.specs.Cause.{HasCause}
use Rattle.lfs_fs.specs.Mounted.{MountedValue, IsMountOf}
use Rattle.lfs_fs.specs.Path.{Path}
use Rattle.lfs_command.specs.declared.refusal.Refusal.{Refusal}
use Rattle.lfs_command.specs.declared.refusal.Refusal.TheVariants as refusal
use Rattle.lfs_request.specs.declared.fault.Fault.{Fault}
use Rattle.lfs_request.specs.declared.manner.Manner.{Manner}
use Rattle.lfs_request.specs.View.{start_of}
use Rattle.lfs_request.specs.declared.fault.Fault.TheVariants.{Image, Mount, Refused, CannotRead, CannotWrite, HostEntry, HostName}
use Rattle.lfs_extract.specs.Extracted.{Extracts, HasRefusedOne, JudgesNames, all_made}
use Rattle.lfs_extract.specs.RowsBelow.{rows_below}
use Rattle.lfs_extract.specs.declared.extract_fault.ExtractFault.{ExtractFault}
use Rattle.lfs_extract.specs.declared.extract_fault.ExtractFault.TheVariants as extracting
use Rattle.lfs_host.specs.Files.{ReadsFrom}
use Rattle.lfs_host.specs.HostTree.{HostTree, IsKind}
use Rattle.lfs_host.specs.NewFolder.{Made}
use Rattle.lfs_host.specs.HostCall.{Looking}
use Rattle.lfs_host.specs.Scene.{HasRefused, KeepsScene, Scene}
use Rattle.lfs_host.specs.declared.host_kind.HostKind.{HostKind}
use Rattle.lfs_host.specs.declared.host_kind.HostKind.TheVariants.{Missing}
use Rattle.lfs_request.specs.Standing.{IsDirectoryThere, RefusesDirectory}
use Rattle.lfs_exchange.specs.Handing.{IsNotTakenUp, most_image}
use Rattle.lfs_exchange.specs.declared.step_kind.StepKind.TheVariants.{Asks}
use Rattle.lfs_open.specs.Later.{later_alone, refused_by}
use Rattle.lfs_open.specs.ReadBy.{IsReadBy}

-- ---- a mounted image

-- what a fault of making the folder is told as
abbrev pub fault_of_extracting : ExtractFault → Fault
fault_of_extracting extracting.Memory = Refused refusal.Memory
fault_of_extracting extracting.HostName = HostName
fault_of_extracting extracting.CannotWrite = CannotWrite

-- a directory is at the path of this text, nothing is there under the folder's name, the rows of the image's mount at that path and below are
-- made in it, as far as is answered, and of their names it is judged which a host can have
pub record MakesRows (d : Disk) (text dir : List ℕ) (tree : Option HostTree) (old new : Option (List Made)) (why : Option ExtractFault)
    : Type 0 where
  pub mounted : MountedValue
  pub mount : IsMountOf d mounted
  pub at : Path
  pub there : IsDirectoryThere d mounted text at
  pub missing : IsKind tree dir Missing
  pub made : Extracts why old new (all_made d dir (rows_below at mounted.rows))
  pub names : JudgesNames why (rows_below at mounted.rows)

-- an image mounts, and a directory is at the path of this text
abbrev pub HasDirectory : Disk → List ℕ → Type 0
HasDirectory d text = (mounted : MountedValue) × IsMountOf d mounted × ((at : Path) × IsDirectoryThere d mounted text at)

-- an image mounts, and the path of this text is refused
abbrev pub HasNoDirectory : Disk → List ℕ → Refusal → Type 0
HasNoDirectory d text r = ((mounted : MountedValue) × IsMountOf d mounted) × RefusesDirectory d text r

-- nothing is there
abbrev pub is_missing : HostKind → Bool
is_missing Missing = true
is_missing _ = false

-- something is there under the folder's name, and nothing is made
pub record FindsFolder (dir : List ℕ) (tree : Option HostTree) (old new : Option (List Made)) : Type 0 where
  pub kind : HostKind
  pub there : is_missing kind ≡ false
  pub is : IsKind tree dir kind
  pub made : new ≡ old

-- why nothing, or not all, is made of an image: the path is judged first, then whether something is under the folder's name
abbrev pub StopsMaking : Disk → List ℕ → List ℕ → Option HostTree → Option (List Made) → Scene → Fault → Type 0
StopsMaking d text dir tree old new (Mount fault) = HasCause d fault × (new.made ≡ old)
StopsMaking d text dir tree old new HostEntry = HasDirectory d text × FindsFolder dir tree old new.made
StopsMaking d text dir tree old new HostName = MakesRows d text dir tree old new.made (Some extracting.HostName)
StopsMaking d text dir tree old new CannotWrite =
    (makes : MakesRows d text dir tree old new.made (Some extracting.CannotWrite)) × HasRefusedOne new (all_made d dir (rows_below makes.at makes.mounted.rows))
StopsMaking d text dir tree old new CannotRead = HasRefused new (Looking dir) × (new.made ≡ old)
StopsMaking d text dir tree old new (Refused r) =
    ((new.made ≡ old) × HasNoDirectory d text r)
    ⊎ ((r ≡ refusal.Memory) × ((new.made ≡ old) ⊎ MakesRows d text dir tree old new.made (Some extracting.Memory)))
StopsMaking d text dir tree old new _ = ⊥

-- what is made of an image, by the fault that it ends with
abbrev pub EndsMaking : Disk → List ℕ → List ℕ → Option HostTree → Option (List Made) → Scene → Option Fault → Type 0
EndsMaking d text dir tree old new None = MakesRows d text dir tree old new.made None
EndsMaking d text dir tree old new (Some fault) = StopsMaking d text dir tree old new fault

-- ---- bytes

-- why nothing, or not all, is made of bytes: they are no image, or as of an image
abbrev pub EndsBytes : ℕ → List ℕ → List ℕ → List ℕ → Option HostTree → Option (List Made) → Scene → Option Fault → Type 0
EndsBytes size bytes text dir tree old new (Some (Image fault)) = IsNoImage fault size bytes × (new.made ≡ old)
EndsBytes size bytes text dir tree old new fault = IsDisk (image_of size bytes) × EndsMaking (image_of size bytes) text dir tree old new fault

-- the same of bytes that are read in a manner, where a commit of a later version may be refused: then nothing is made
abbrev pub EndsRead : Manner → ℕ → List ℕ → List ℕ → List ℕ → Option HostTree → Option (List Made) → Scene → Option Fault → Type 0
EndsRead manner size bytes text dir tree old new fault =
    ((new.made ≡ old) × ((why : Fault) × (fault ≡ Some why) × (refused_by manner (later_alone size bytes) ≡ Some why)))
    ⊎ ((refused_by manner (later_alone size bytes) ≡ None)
    × ((image : List ℕ) × IsReadBy manner.view size bytes image × EndsBytes size image text dir tree old new fault))

-- ---- an image's file

-- what is made of an image's file: nothing where it isn't read, in its manner; else as of its bytes; no file changes, and nothing is printed
abbrev pub EndsExtract : Manner → ℕ → List ℕ → List ℕ → List ℕ → Scene → Scene → Option Fault → Type 0
EndsExtract manner size name text dir old new fault =
    KeepsScene old new
    × (((new.made ≡ old.made) × ((why : Fault) × (fault ≡ Some why) × IsNotTakenUp Asks new name why))
    ⊎ ((bytes : List ℕ) × ReadsFrom old.files name (start_of manner.view) most_image bytes × EndsRead manner size bytes text dir old.tree old.made new fault))
