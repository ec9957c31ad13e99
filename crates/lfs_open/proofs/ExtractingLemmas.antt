-- How making a folder of an image ends.
use Rattle.std.proofs.Common.{◌≡◌, ◌⊎◌, ℕ, List, Option, Some, None, Result, Ok, Err, refl, sym, subst, inl, inr}
use Rattle.std.specs.Option.{option_map}
use Rattle.std.specs.Prelude.{IfErr, IfSome, ⊤}
use Rattle.std.specs.Result.{result_err}
use Rattle.lfs_block.specs.Disk.{Disk, IsDisk}
use Rattle.lfs_block.proofs.BytesLemmas.{image_of_disk}
use Rattle.lfs_request.specs.declared.fault.Fault.{Fault}
use Rattle.lfs_request.specs.declared.manner.Manner.{Manner}
use Rattle.lfs_request.specs.View.{start_of}
use Rattle.lfs_request.specs.declared.fault.Fault.TheVariants.{Image, Refused, CannotRead, HostEntry}
use Rattle.lfs_extract.specs.declared.extract_fault.ExtractFault.{ExtractFault}
use Rattle.lfs_extract.specs.declared.extract_fault.ExtractFault.TheVariants.{Memory, HostName, CannotWrite}
use Rattle.lfs_host.specs.Files.{Files, ReadsFrom}
use Rattle.lfs_host.specs.HostTree.{HostTree}
use Rattle.lfs_host.specs.NewFolder.{Made}
use Rattle.lfs_host.specs.HostCall.{HostCall, Looking}
use Rattle.lfs_host.specs.Scene.{KeepsScene, Notes, Scene, refuses_reading}
use Rattle.lfs_extract.specs.Extracted.{HasRefusedOne, all_made}
use Rattle.lfs_extract.specs.RowsBelow.{rows_below}
use Rattle.lfs_host.specs.declared.read_fault.ReadFault.{ReadFault}
use Rattle.lfs_host.specs.declared.read_fault.ReadFault.TheVariants as reading
use Rattle.lfs_command.specs.declared.refusal.Refusal.{Refusal}
use Rattle.lfs_fs.specs.Mounted.{MountedValue, IsMountOf}
use Rattle.lfs_request.specs.Standing.{RefusesDirectory}
use Rattle.lfs_exchange.specs.declared.step_kind.StepKind.{StepKind}
use Rattle.lfs_exchange.specs.declared.step_kind.StepKind.TheVariants.{Asks}
use Rattle.lfs_exchange.specs.Handing.{HandsImage, IsNotTakenUp, IsUnreadBy, fault_of_reading, most_image}
use Rattle.lfs_open.specs.Later.{later_alone, refused_by}
use Rattle.lfs_open.specs.ReadBy.{IsReadBy}
use Rattle.lfs_open.specs.Extracting.{EndsBytes, EndsExtract, EndsMaking, FindsFolder, HasDirectory, MakesRows, StopsMaking, fault_of_extracting}
use Rattle.lfs_block.specs.declared.mount_fault.MountFault.{MountFault}
use Rattle.lfs_block.specs.declared.mount_fault.MountFault.TheVariants as mounting
use Rattle.lfs_fs.specs.Cause.{HasCause}
use Rattle.lfs_request.specs.Fault.{fault_of_mount}

-- what the host refuses to read
pub unread : (fault : ReadFault) (call : HostCall) (old new : Scene) → Notes call (refuses_reading fault) old new → IsUnreadBy call new (fault_of_reading fault)
unread reading.Memory call old new notes = refl
unread reading.CannotRead call old new notes = notes.0

-- what isn't read ends it, and nothing is made
unread_ends : (d : Disk) (text dir : List ℕ) (tree : Option HostTree) (old : Option (List Made)) (new : Scene) (fault : Fault) → IsUnreadBy (Looking dir) new fault
    → new.made ≡ old → StopsMaking d text dir tree old new fault
unread_ends d text dir tree old new CannotRead unread same = (unread, same)
unread_ends d text dir tree old new (Refused refusal) unread same = inr (unread, inl same)
unread_ends d text dir tree old new _ unread same = absurd unread

-- on an image that mounts and has a directory at the path, what isn't missing ends it, and nothing is made
pub there_ends : (d : Disk) (text : List ℕ) → HasDirectory d text → (dir : List ℕ) (tree : Option HostTree) (old : Option (List Made)) (new : Scene) (fault : Fault)
    → IsUnreadBy (Looking dir) new fault ⊎ ((fault ≡ HostEntry) × FindsFolder dir tree old new.made) → new.made ≡ old → StopsMaking d text dir tree old new fault
there_ends d text mounts dir tree old new fault (inl is) same = unread_ends d text dir tree old new fault is same
there_ends d text mounts dir tree old new fault (inr (is, finds)) same = subst (StopsMaking d text dir tree old new) (sym is) (mounts, finds)

-- a path that is refused ends it, and nothing is made
pub refused_ends : (d : Disk) (text dir : List ℕ) (tree : Option HostTree) (old : Option (List Made)) (new : Scene) (r : Refusal)
    → new.made ≡ old → ((m : MountedValue) × IsMountOf d m) → RefusesDirectory d text r → StopsMaking d text dir tree old new (Refused r)
refused_ends d text dir tree old new r same mounts refused = inl (same, (mounts, refused))

-- an image that doesn't mount ends it, and nothing is made
cause_ends : (d : Disk) (text dir : List ℕ) (tree : Option HostTree) (s : Scene) (cause : MountFault) → HasCause d cause
    → StopsMaking d text dir tree s.made s (fault_of_mount cause)
cause_ends d text dir tree s mounting.Memory cause = inr (refl, inl refl)
cause_ends d text dir tree s _ cause = (cause, refl)

pub unmounted_ends : (d : Disk) (text dir : List ℕ) (tree : Option HostTree) (s : Scene) (cause : MountFault) (r : Result ⊤ Fault) (fault : Fault)
    → r ≡ Err fault → fault ≡ fault_of_mount cause → HasCause d cause → EndsMaking d text dir tree s.made s (result_err r)
unmounted_ends d text dir tree s cause r fault is same has =
    subst (λ (x : Result ⊤ Fault). EndsMaking d text dir tree s.made s (result_err x)) (sym is)
    (subst (StopsMaking d text dir tree s.made s) (sym same) (cause_ends d text dir tree s cause has))

-- the fault of a result is blamed where the result is
pub fault_blamed : {T : Type 0} (made : Result T ExtractFault) (new : Scene) (complete : List Made)
    → IfErr made (λ fault. fault ≡ CannotWrite → HasRefusedOne new complete)
    → IfSome (result_err made) (λ fault. fault ≡ CannotWrite → HasRefusedOne new complete)
fault_blamed (Ok done) new complete blamed = tt
fault_blamed (Err fault) new complete blamed = blamed

-- rows that were made end it, by what is told
pub rows_end : (d : Disk) (text dir : List ℕ) (tree : Option HostTree) (old : Option (List Made)) (new : Scene) (why : Option ExtractFault)
    → (makes : MakesRows d text dir tree old new.made why)
    → IfSome why (λ fault. fault ≡ CannotWrite → HasRefusedOne new (all_made d dir (rows_below makes.at makes.mounted.rows)))
    → EndsMaking d text dir tree old new (option_map fault_of_extracting why)
rows_end d text dir tree old new None makes blamed = makes
rows_end d text dir tree old new (Some Memory) makes blamed = inr (refl, inr makes)
rows_end d text dir tree old new (Some HostName) makes blamed = makes
rows_end d text dir tree old new (Some CannotWrite) makes blamed = (makes, blamed refl)

-- what is made of a disk is made of its bytes
of_disk : (d : Disk) (text dir : List ℕ) (tree : Option HostTree) (old : Option (List Made)) (new : Scene) (fault : Option Fault) → IsDisk d
    → EndsMaking d text dir tree old new fault → EndsBytes d.size d.bytes text dir tree old new fault
of_disk d text dir tree old new (Some (Image fault)) is ends = absurd ends
of_disk d text dir tree old new fault is ends =
    let same = sym (image_of_disk d is) in
    (subst (λ (e : Disk). IsDisk e) same is, subst (λ (e : Disk). EndsMaking e text dir tree old new fault) same ends)

pub bytes_end : (size : ℕ) (bytes : List ℕ) (d : Disk) (text dir : List ℕ) (tree : Option HostTree) (old : Option (List Made)) (new : Scene)
    (ended fault : Option Fault) → IsDisk d → d.size ≡ size → d.bytes ≡ bytes → ended ≡ fault → EndsMaking d text dir tree old new fault
    → EndsBytes size bytes text dir tree old new ended
bytes_end size bytes d text dir tree old new ended fault is size_is bytes_are told ends =
    let at = of_disk d text dir tree old new fault is ends in
    let by_size = subst (λ (n : ℕ). EndsBytes n d.bytes text dir tree old new fault) size_is at in
    let by_bytes = subst (λ (bs : List ℕ). EndsBytes size bs text dir tree old new fault) bytes_are by_size in
    subst (EndsBytes size bytes text dir tree old new) (sym told) by_bytes

-- what is made of the bytes of a file
pub file_ends : (manner : Manner) (size : ℕ) (name text dir bytes image : List ℕ) (old mid new : Scene) (ended : Option Fault)
    → ReadsFrom old.files name (start_of manner.view) most_image bytes → mid.tree ≡ old.tree → mid.made ≡ old.made → KeepsScene old new
    → refused_by manner (later_alone size bytes) ≡ None → IsReadBy manner.view size bytes image
    → EndsBytes size image text dir mid.tree mid.made new ended → EndsExtract manner size name text dir old new ended
file_ends manner size name text dir bytes image old mid new ended reads tree_is made_is keeps none read ends =
    let by_tree = subst (λ (t : Option HostTree). EndsBytes size image text dir t mid.made new ended) tree_is ends in
    let by_made = subst (λ (before : Option (List Made)). EndsBytes size image text dir old.tree before new ended) made_is by_tree in
    (keeps, inr (bytes, reads, inr (none, (image, read, by_made))))

-- nothing is made of an image that is refused for a commit of a later version
pub file_later : (manner : Manner) (size : ℕ) (name text dir bytes : List ℕ) (old new : Scene) (ended : Option Fault) (fault : Fault)
    → ReadsFrom old.files name (start_of manner.view) most_image bytes → KeepsScene old new → new.made ≡ old.made → ended ≡ Some fault
    → refused_by manner (later_alone size bytes) ≡ Some fault → EndsExtract manner size name text dir old new ended
file_later manner size name text dir bytes old new ended fault reads keeps made_is is refused =
    (keeps, inr (bytes, reads, inl (made_is, (fault, is, refused))))

-- what is handed of a file that is asked is what is read of it
pub asked_read : (kind : StepKind) (place : ℕ) (files old : Option Files) (name image : List ℕ) → kind ≡ Asks → files ≡ old
    → HandsImage kind place files name image → ReadsFrom old name place most_image image
asked_read kind place files old name image is same hands =
    subst (λ (f : Option Files). ReadsFrom f name place most_image image) same
    (subst (λ (k : StepKind). HandsImage k place files name image) is hands)

-- nor of a file that isn't read
pub file_unread : (manner : Manner) (size : ℕ) (name text dir : List ℕ) (old new : Scene) (ended : Option Fault) (fault : Fault) → KeepsScene old new
    → new.made ≡ old.made → ended ≡ Some fault → IsNotTakenUp Asks new name fault → EndsExtract manner size name text dir old new ended
file_unread manner size name text dir old new ended fault keeps made_is is unread = (keeps, inl (made_is, (fault, is, unread)))
