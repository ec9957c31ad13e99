-- What is answered to a query of an image alone, and why nothing is (own).
use Rattle.std.specs.Prelude.{ℕ, ◌≡◌, ◌⊎◌, ◌≤◌, Bool, true, false, List, Option, Some, None, length, take}
use Rattle.std.specs.Io.KnownBytes.{Appends, Keeps}
use Rattle.lfs_block.specs.Disk.{Disk}
use Rattle.lfs_fs.specs.Cause.{HasCause}
use Rattle.lfs_fs.specs.Mounted.{MountedValue, IsMountOf}
use Rattle.lfs_command.specs.declared.refusal.Refusal.{Refusal}
use Rattle.lfs_command.specs.declared.refusal.Refusal.TheVariants.{Memory}
use Rattle.lfs_json.specs.declared.form.Form.{Form}
use Rattle.lfs_listing.specs.BlockMap.{block_map}
use Rattle.lfs_listing.specs.BlockSums.{block_sums}
use Rattle.lfs_listing.specs.declared.unsent.Unsent.{Unsent}
use Rattle.lfs_listing.specs.declared.unsent.Unsent.TheVariants as unsent
use Rattle.lfs_request.specs.declared.fault.Fault.{Fault}
use Rattle.lfs_request.specs.declared.fault.Fault.TheVariants.{Mount, Refused, CannotWrite, Differ}
use Rattle.lfs_request.specs.Query.{Question}
use Rattle.lfs_request.specs.declared.query.Query.TheVariants.{Check, Ls, Blocks, Cat}
use Rattle.lfs_sink.specs.Send.{SendsBeginning}
use Rattle.lfs_step.specs.Contents.{IsContents, RefusesContents}
use Rattle.lfs_request.specs.Standing.{RefusesListing}
use Rattle.lfs_step.specs.Listed.{IsListing}
use Rattle.lfs_step.specs.Summary.{check_text, has_longer}

-- which block holds what, or in place of that how many blocks each path takes
abbrev pub blocks_text : Form → Bool → MountedValue → List ℕ
blocks_text form true mounted = block_sums form mounted.outline mounted.rows
blocks_text form false mounted = block_map form mounted.outline mounted.rows

-- the text that answers a query of an image alone, which mounts, in a form
abbrev pub IsAnswer : Question → Form → Disk → List ℕ → Type 0
IsAnswer (Check version most) form disk text =
    (mounted : MountedValue) × IsMountOf disk mounted × (text ≡ check_text form version most disk mounted)
IsAnswer (Ls path digests) form disk text = IsListing form digests disk path.now text
IsAnswer (Blocks sums) form disk text =
    (mounted : MountedValue) × IsMountOf disk mounted × (text ≡ blocks_text form sums mounted)
IsAnswer (Cat path) form disk text = IsContents disk path.now text
IsAnswer _ form disk text = ⊥

-- an image mounts
abbrev pub HasMount : Disk → Type 0
HasMount disk = (mounted : MountedValue) × IsMountOf disk mounted

-- why there is none: want of memory, or that the image mounts and has nothing at the path, or no file to be read
abbrev pub RefusesAnswer : Question → Disk → Refusal → Type 0
RefusesAnswer query disk Memory = Unit {0}
RefusesAnswer (Ls path digests) disk refusal = HasMount disk × RefusesListing disk path.now refusal
RefusesAnswer (Cat path) disk refusal = HasMount disk × RefusesContents disk path.now refusal
RefusesAnswer _ disk refusal = ⊥

-- an image mounts, and a file stands in its entry that is longer than is asked
abbrev pub FindsLonger : Option ℕ → Disk → Type 0
FindsLonger most disk = (mounted : MountedValue) × IsMountOf disk mounted × (has_longer most mounted ≡ true)

-- why nothing, or not all, is said of an image: a cause that it has, no answer, or standard output; or all is said, and a file is longer than
-- is asked
abbrev pub RefusesReport : Question → Form → Disk → Fault → Type 0
RefusesReport query form disk (Mount fault) = HasCause disk fault
RefusesReport query form disk (Refused refusal) = RefusesAnswer query disk refusal
RefusesReport query form disk CannotWrite = (text : List ℕ) × IsAnswer query form disk text
RefusesReport (Check version most) form disk Differ = FindsLonger most disk
RefusesReport query form disk _ = ⊥

-- nothing has gone out of the text that answers a query, or some of it
abbrev pub SendsSome : Question → Form → Disk → Option (List ℕ) → Option (List ℕ) → Type 0
SendsSome query form disk old new =
    Keeps old new ⊎ ((text : List ℕ) × IsAnswer query form disk text × (n : ℕ) × (n ≤ length text) × Appends old new (take n text))

-- what goes out of an image that is checked, by whether a file is longer than is asked
abbrev pub SendsCheck : ℕ → Option ℕ → Form → Disk → Bool → Option (List ℕ) → Option (List ℕ) → Type 0
SendsCheck version most form disk longer old new =
    (mounted : MountedValue) × IsMountOf disk mounted × (has_longer most mounted ≡ longer)
    × Appends old new (check_text form version most disk mounted)

-- the whole text goes out; of a check no file is longer than is asked
abbrev pub SendsAnswer : Question → Form → Disk → Option (List ℕ) → Option (List ℕ) → Type 0
SendsAnswer (Check version most) form disk old new = SendsCheck version most form disk false old new
SendsAnswer query form disk old new = (text : List ℕ) × IsAnswer query form disk text × Appends old new text

-- what goes out on an image: the whole text, a beginning of it if standard output failed, else nothing; of a check the whole text also if a
-- file is longer than is asked; of a listing, and of what is said of blocks, which are written line by line, some if memory was refused
abbrev pub SendsReport : Question → Form → Disk → Option Fault → Option (List ℕ) → Option (List ℕ) → Type 0
SendsReport query form disk None old new = SendsAnswer query form disk old new
SendsReport query form disk (Some CannotWrite) old new =
    (text : List ℕ) × IsAnswer query form disk text × SendsBeginning old new text
SendsReport (Check version most) form disk (Some Differ) old new = SendsCheck version most form disk true old new
SendsReport (Ls path digests) form disk (Some (Refused refusal)) old new = SendsSome (Ls path digests) form disk old new
SendsReport (Blocks sums) form disk (Some (Refused refusal)) old new = SendsSome (Blocks sums) form disk old new
SendsReport query form disk (Some fault) old new = Keeps old new

-- a listing that didn't go out as a whole is told as want of memory, or as standard output that failed
abbrev pub fault_of_unsent : Unsent → Fault
fault_of_unsent unsent.Memory = Refused Memory
fault_of_unsent unsent.CannotWrite = CannotWrite

-- how a check ends, by whether its text went out completely, and whether a file is longer than is asked
abbrev pub end_of_check : Bool → Bool → Option Fault
end_of_check false longer = Some CannotWrite
end_of_check true true = Some Differ
end_of_check true false = None
