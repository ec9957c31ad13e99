-- What is left of an image that is taken over, and what is said of it (own).
use Rattle.std.specs.Prelude.{ℕ, ◌≡◌, ◌==◌, ◌&&◌, nat_lt, not, Bool, false, true, List, Option, Some, None, length, if◌then◌else◌}
use Rattle.std.specs.Io.KnownBytes.{Appends, Keeps}
use Rattle.lfs_block.specs.Disk.{Disk, IsDisk, image_of}
use Rattle.lfs_block.specs.ImageFault.{IsNoImage}
use Rattle.lfs_journal.specs.Book.{journal_bytes}
use Rattle.lfs_history.specs.History.{IsHistory, fresh_history}
use Rattle.lfs_history.specs.Opening.{journal_of}
use Rattle.lfs_adopt.specs.Adopted.{IsAdoptedImage}
use Rattle.lfs_adopt.specs.Changed.{changed_blocks}
use Rattle.lfs_json.specs.declared.form.Form.{Form}
use Rattle.lfs_request.specs.declared.fault.Fault.{Fault}
use Rattle.lfs_request.specs.declared.fault.Fault.TheVariants.{Image, JournalHasChanges, CannotWrite}
use Rattle.lfs_request.specs.declared.outcome.Outcome.{Outcome}
use Rattle.lfs_sink.specs.Send.{SendsBeginning}
use Rattle.lfs_change.specs.Adopting.{RefusesAdopting}
use Rattle.lfs_step.specs.ChangedText.{changed_text}

-- ---- the journal

abbrev pub is_empty : List ℕ → Bool
is_empty xs = length xs == 0

-- a journal has changes: it is longer than one without, which has 24 bytes
abbrev pub has_changes : List ℕ → Bool
has_changes journal = nat_lt 24 (length journal)

-- a journal that is there stays if no block changes
abbrev pub journal_stays : List ℕ → List ℕ → Bool
journal_stays changed journal = is_empty changed && not (is_empty journal)

-- else a journal with changes would be replaced
abbrev pub drops_changes : List ℕ → List ℕ → Bool
drops_changes changed journal = not (is_empty changed) && has_changes journal

-- the journal beside the new image: the one that is there, or one without changes
abbrev pub journal_left : List ℕ → Disk → List ℕ → List ℕ
journal_left changed e journal = if journal_stays changed journal then journal else journal_bytes (journal_of (fresh_history e))

-- ---- what is left

-- The bytes are an image. It is taken over, and mounts then. Changes are dropped only if that is asked for.
pub record IsTakenOver (replaces : Bool) (d : Disk) (journal : List ℕ) (e : Disk) (left : List ℕ) : Type 0 where
  pub old : IsDisk d
  pub adopted : IsAdoptedImage d e
  pub history : IsHistory (fresh_history e)
  pub journal_is : left ≡ journal_left (changed_blocks d e) e journal
  pub may : (not replaces && drops_changes (changed_blocks d e) journal) ≡ false

-- the same of an outcome
abbrev pub LeavesTakenOver : Bool → ℕ → List ℕ → List ℕ → Outcome → Type 0
LeavesTakenOver replaces size image journal outcome =
    IsTakenOver replaces (image_of size image) journal (image_of size outcome.image.items) outcome.journal.items

-- why it isn't taken over: changes would be dropped; standard output, once it is; or as an image is refused
abbrev pub RefusesImageTaken : Bool → Disk → List ℕ → Fault → Type 0
RefusesImageTaken replaces d journal JournalHasChanges =
    (e : Disk) × IsAdoptedImage d e × ((not replaces && drops_changes (changed_blocks d e) journal) ≡ true)
RefusesImageTaken replaces d journal CannotWrite = (e : Disk) × IsAdoptedImage d e
RefusesImageTaken replaces d journal fault = RefusesAdopting d fault

-- the same of bytes, which may be no image
abbrev pub RefusesTaking : Bool → ℕ → List ℕ → List ℕ → Fault → Type 0
RefusesTaking replaces size image journal (Image fault) = IsNoImage fault size image
RefusesTaking replaces size image journal fault = IsDisk (image_of size image) × RefusesImageTaken replaces (image_of size image) journal fault

-- ---- what is said

-- the blocks that change, a beginning of that if standard output failed, else nothing
abbrev pub SendsChanged : Form → Disk → Disk → Option Fault → Option (List ℕ) → Option (List ℕ) → Type 0
SendsChanged form d e None old new = Appends old new (changed_text form (changed_blocks d e))
SendsChanged form d e (Some CannotWrite) old new =
    (f : Disk) × IsAdoptedImage d f × SendsBeginning old new (changed_text form (changed_blocks d f))
SendsChanged form d e (Some fault) old new = Keeps old new
