-- What is saved of an image, which needn't mount, in a new folder of the host (own).
use Rattle.std.specs.Prelude.{◌≡◌, ◌⊎◌, ◌||◌, ℕ, nat_lt, Bool, true, false, List, [], Option, Some, None, if◌then◌else◌, length, take}
use Rattle.lfs_block.specs.Disk.{Disk, IsDisk, image_of}
use Rattle.lfs_block.specs.ImageFault.{IsNoImage}
use Rattle.lfs_block.specs.declared.mount_fault.MountFault.{MountFault}
use Rattle.lfs_block.specs.declared.mount_fault.MountFault.TheVariants.{Orphan}
use Rattle.lfs_command.specs.declared.refusal.Refusal.TheVariants as refusal
use Rattle.lfs_extract.specs.declared.extract_fault.ExtractFault.TheVariants as extracting
use Rattle.lfs_fs.specs.Cause.{HasCause, IsOfFormat}
use Rattle.lfs_fs.specs.Path.{path_text}
use Rattle.lfs_host.specs.Files.{ReadsFrom}
use Rattle.lfs_host.specs.HostTree.{HostTree, IsKind}
use Rattle.lfs_host.specs.NewFolder.{Made}
use Rattle.lfs_host.specs.HostCall.{Looking}
use Rattle.lfs_host.specs.Scene.{HasRefused, KeepsScene, Scene}
use Rattle.lfs_host.specs.declared.host_kind.HostKind.TheVariants.{Missing}
use Rattle.lfs_lower.specs.Through.{IsLoweredThrough}
use Rattle.lfs_request.specs.View.{start_of}
use Rattle.lfs_request.specs.declared.fault.Fault.{Fault}
use Rattle.lfs_request.specs.declared.fault.Fault.TheVariants.{Image, Mount, DamagedCommit, Refused, CannotRead, CannotWrite, HostEntry, HostName}
use Rattle.lfs_request.specs.declared.view.View.{View}
use Rattle.lfs_salvage.specs.Below.{HasRefusedBelow}
use Rattle.lfs_salvage.specs.Losses.{has_loss}
use Rattle.lfs_salvage.specs.Saved.{SavesAll, StopsSaving}
use Rattle.lfs_salvage.specs.Word.{has_other_names}
use Rattle.lfs_salvage.specs.declared.saved.Saved.{Saved}
use Rattle.lfs_survey.specs.Damaged.{has_older}
use Rattle.lfs_survey.specs.Survey.{IsSurvey}
use Rattle.lfs_survey.specs.declared.survey.Survey.{Survey}
use Rattle.lfs_exchange.specs.Handing.{IsNotTakenUp, most_image}
use Rattle.lfs_exchange.specs.declared.step_kind.StepKind.TheVariants.{Asks}
use Rattle.lfs_open.specs.Extracting.{EndsMaking, FindsFolder}
use Rattle.lfs_open.specs.ReadBy.{IsReadFrom}

-- An image is read as a device does. Its file's own bytes are the image d; e is that with each block lowered, in which its pairs are read.

-- ---- an image that doesn't mount

-- something isn't saved as it was last: it is lost, or an older state of a pair is saved, since a later commit is damaged
abbrev pub misses : Disk → Saved → Bool
misses d saved = has_loss saved || has_older true d saved.areas.items

-- nothing is there under the folder's name, all that can be read is saved in it, of files in one image and of pairs in another, and
-- something is missed or not
pub record SavesImage (d e : Disk) (dir : List ℕ) (tree : Option HostTree) (old new : Option (List Made)) (missed : Bool) : Type 0 where
  pub missing : IsKind tree dir Missing
  pub what : Saved
  pub saved : SavesAll d e dir old new what
  pub missed_is : misses d what ≡ missed

-- what is saved of it, by the fault that it ends with: that for which it doesn't mount, if something is missed
abbrev pub EndsSaving : Disk → Disk → MountFault → List ℕ → Option HostTree → Option (List Made) → Scene → Option Fault → Type 0
EndsSaving d e cause dir tree old new None = SavesImage d e dir tree old new.made false
EndsSaving d e cause dir tree old new (Some (Mount fault)) = (fault ≡ cause) × SavesImage d e dir tree old new.made true
EndsSaving d e cause dir tree old new (Some HostEntry) = FindsFolder dir tree old new.made
EndsSaving d e cause dir tree old new (Some CannotRead) = HasRefused new (Looking dir) × (new.made ≡ old)
EndsSaving d e cause dir tree old new (Some CannotWrite) =
    HasRefusedBelow new dir × IsKind tree dir Missing × StopsSaving d e dir old new.made extracting.CannotWrite
EndsSaving d e cause dir tree old new (Some (Refused r)) =
    (r ≡ refusal.Memory) × ((new.made ≡ old) ⊎ (IsKind tree dir Missing × StopsSaving d e dir old new.made extracting.Memory))
EndsSaving d e cause dir tree old new _ = ⊥

-- ---- an image that mounts

-- a fault isn't that an image doesn't mount
abbrev pub IsOther : Option Fault → Type 0
IsOther (Some (Mount fault)) = ⊥
IsOther _ = Unit {0}

-- a survey of its pairs finds something that no path leads to, or nothing, an older state of one, or none, and a name that a host may not
-- have as it is, or none
abbrev pub Finds : Disk → Disk → Bool → Bool → Bool → Type 0
Finds d e lost older other = (s : Survey) × IsSurvey e s × (nat_lt 1 (length s.areas.items) ≡ lost) × (has_older true d s.areas.items ≡ older)
    × (has_other_names s.areas.items ≡ other)

-- a path leads to all that is found, hosts have each name, and a folder is made of it, as of any; it ends well only if no older state of a
-- pair is found
abbrev pub EndsWhole : Disk → Disk → Disk → List ℕ → Option HostTree → Option (List Made) → Scene → Option Fault → Type 0
EndsWhole i d e dir tree old new None = Finds d e false false false × EndsMaking i (path_text []) dir tree old new None
EndsWhole i d e dir tree old new (Some DamagedCommit) = Finds d e false true false × EndsMaking i (path_text []) dir tree old new None
EndsWhole i d e dir tree old new (Some (Mount fault)) = ⊥
EndsWhole i d e dir tree old new (Some fault) = EndsMaking i (path_text []) dir tree old new (Some fault)

-- how it ends that this is saved of such an image: well, if nothing is lost and no older state of a pair is found
abbrev pub named_end : Disk → Saved → Option Fault
named_end d saved =
    if has_loss saved then Some HostName else (if has_older true d saved.areas.items then Some DamagedCommit else None)

-- nothing is there under the folder's name, and all that can be read is saved in it
pub record SavesNamed (d e : Disk) (dir : List ℕ) (tree : Option HostTree) (old new : Option (List Made)) (fault : Option Fault) : Type 0 where
  pub missing : IsKind tree dir Missing
  pub what : Saved
  pub saved : SavesAll d e dir old new what
  pub ends : named_end d what ≡ fault

-- what is saved of it, by the fault that it ends with
abbrev pub EndsNamed : Disk → Disk → List ℕ → Option HostTree → Option (List Made) → Scene → Option Fault → Type 0
EndsNamed d e dir tree old new None = SavesNamed d e dir tree old new.made None
EndsNamed d e dir tree old new (Some DamagedCommit) = SavesNamed d e dir tree old new.made (Some DamagedCommit)
EndsNamed d e dir tree old new (Some HostName) = SavesNamed d e dir tree old new.made (Some HostName)
EndsNamed d e dir tree old new (Some (Mount fault)) = ⊥
EndsNamed d e dir tree old new (Some fault) = EndsSaving d e Orphan dir tree old new (Some fault)

-- ---- bytes

-- a path leads to all that is found, a host may not have a name, and all that can be read is saved
abbrev pub EndsOther : Disk → Disk → List ℕ → Option HostTree → Option (List Made) → Scene → Option Fault → Type 0
EndsOther d e dir tree old new fault = (older : Bool) × Finds d e false older true × EndsNamed d e dir tree old new fault

-- something is found that no path leads to, and all that can be read is saved
abbrev pub EndsLost : Disk → Disk → List ℕ → Option HostTree → Option (List Made) → Scene → Option Fault → Type 0
EndsLost d e dir tree old new fault =
    (older other : Bool) × Finds d e true older other × EndsSaving d e Orphan dir tree old new fault

-- what is saved of the image i that is read of those: it mounts, and a folder is made of it, or a host may not have a name, or something is
-- found that no path leads to; or it doesn't, for a cause
abbrev pub EndsImage : Disk → Disk → Disk → List ℕ → Option HostTree → Option (List Made) → Scene → Option Fault → Type 0
EndsImage i d e dir tree old new fault =
    EndsWhole i d e dir tree old new fault
    ⊎ EndsOther d e dir tree old new fault
    ⊎ EndsLost d e dir tree old new fault
    ⊎ ((cause : MountFault) × IsOfFormat cause × HasCause i cause × EndsSaving d e cause dir tree old new fault)

-- the image of a file's own bytes, as many as are read, and that with each block lowered
abbrev pub AreOwn : ℕ → List ℕ → List ℕ → Disk → Disk → Type 0
AreOwn size bytes image d e = (d ≡ image_of size (take (length image) bytes)) × IsLoweredThrough d e

-- what is saved of bytes of which these are read: they are no image; or memory is wanting for those with each block lowered; or as of an image
abbrev pub EndsSalvaged : ℕ → List ℕ → List ℕ → List ℕ → Option HostTree → Option (List Made) → Scene → Option Fault → Type 0
EndsSalvaged size bytes image dir tree old new (Some (Image fault)) = IsNoImage fault size image × (new.made ≡ old)
EndsSalvaged size bytes image dir tree old new fault =
    IsDisk (image_of size image)
    × (((fault ≡ Some (Refused refusal.Memory)) × (new.made ≡ old))
    ⊎ ((d : Disk) × (e : Disk) × AreOwn size bytes image d e × EndsImage (image_of size image) d e dir tree old new fault))

-- ---- an image's file

-- what is saved of an image's file: nothing if it isn't read; else as of its bytes, which are read as a device does; files and what was
-- printed stay
abbrev pub EndsSalvage : View → ℕ → List ℕ → List ℕ → Scene → Scene → Option Fault → Type 0
EndsSalvage view size name dir old new fault =
    KeepsScene old new
    × (((new.made ≡ old.made) × ((why : Fault) × (fault ≡ Some why) × IsNotTakenUp Asks new name why))
    ⊎ ((bytes : List ℕ) × ReadsFrom old.files name (start_of view) most_image bytes
    × ((image : List ℕ) × IsReadFrom view.offset true size bytes image × EndsSalvaged size bytes image dir old.tree old.made new fault)))
