-- What is told of the changes in a journal, and why nothing is (own).
use Rattle.std.specs.Prelude.{ℕ, ◌≡◌, List, Option, Some, None}
use Rattle.std.specs.Io.KnownBytes.{Appends, Keeps}
use Rattle.lfs_block.specs.Disk.{Disk}
use Rattle.lfs_fs.specs.Cause.{HasCause}
use Rattle.lfs_command.specs.declared.refusal.Refusal.TheVariants.{Memory}
use Rattle.lfs_history.specs.History.{History}
use Rattle.lfs_history.specs.declared.open_fault.OpenFault.TheVariants as opening
use Rattle.lfs_request.specs.declared.fault.Fault.{Fault}
use Rattle.lfs_request.specs.declared.fault.Fault.TheVariants.{Mount, Refused, JournalFormat, JournalMismatch, JournalImage, CannotWrite}
use Rattle.lfs_change.specs.Change.{DenotesOn, RefusesJournal}
use Rattle.lfs_sink.specs.Send.{SendsBeginning}
use Rattle.lfs_json.specs.declared.form.Form.{Form}
use Rattle.lfs_step.specs.Log.{IsHistoryLog}

-- the text is that of the history which an image and the bytes of a journal denote, in a form
pub record IsRecount (form : Form) (d : Disk) (journal text : List ℕ) : Type 0 where
  pub history : History
  pub denotes : DenotesOn d journal history
  pub log : IsHistoryLog form history text

-- Why nothing, or not all, is told of an image's changes: a cause that it has, then what its journal is refused for, as where a change is
-- taken back; want of memory, or standard output.
abbrev pub RefusesRecount : Form → Disk → List ℕ → Fault → Type 0
RefusesRecount form d journal (Mount fault) = HasCause d fault
RefusesRecount form d journal (Refused refusal) = refusal ≡ Memory
RefusesRecount form d journal JournalFormat = RefusesJournal opening.JournalFormat d journal
RefusesRecount form d journal JournalMismatch = RefusesJournal opening.JournalMismatch d journal
RefusesRecount form d journal JournalImage = RefusesJournal opening.JournalImage d journal
RefusesRecount form d journal CannotWrite = (text : List ℕ) × IsRecount form d journal text
RefusesRecount form d journal _ = ⊥

-- what goes out on an image: the whole text, a beginning of it where standard output failed, else nothing
abbrev pub SendsRecount : Form → Disk → List ℕ → Option Fault → Option (List ℕ) → Option (List ℕ) → Type 0
SendsRecount form d journal None old new = (text : List ℕ) × IsRecount form d journal text × Appends old new text
SendsRecount form d journal (Some CannotWrite) old new = (text : List ℕ) × IsRecount form d journal text × SendsBeginning old new text
SendsRecount form d journal (Some fault) old new = Keeps old new
