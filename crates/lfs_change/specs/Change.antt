-- The outcome of steps on an image's history, all of which are done or none (own).
use Rattle.std.specs.Prelude.{◌≡◌, ◌≢◌, ◌⊎◌, ℕ, List, [], ◌∷◌, Option, Some, None}
use Rattle.lfs_block.specs.Disk.{Disk, IsDisk, image_of}
use Rattle.lfs_block.specs.ImageFault.{IsNoImage}
use Rattle.lfs_fs.specs.Cause.{HasCause}
use Rattle.lfs_command.specs.declared.refusal.Refusal.{Refusal}
use Rattle.lfs_command.specs.declared.refusal.Refusal.TheVariants.{Memory}
use Rattle.lfs_journal.specs.Book.{journal_bytes}
use Rattle.lfs_history.specs.declared.open_fault.OpenFault.{OpenFault}
use Rattle.lfs_history.specs.declared.open_fault.OpenFault.TheVariants as opening
use Rattle.lfs_history.specs.declared.step_fault.StepFault.{StepFault}
use Rattle.lfs_history.specs.declared.step_fault.StepFault.TheVariants.{Refused as Refused_step, RefusedAt}
use Rattle.lfs_history.specs.Batch.{StopsAt, TakesAll}
use Rattle.lfs_history.specs.History.{History, IsHistory, fresh_history}
use Rattle.lfs_history.specs.Opening.{Opens, RefusesOpening, journal_of}
use Rattle.lfs_history.specs.Taking.{Move}
use Rattle.lfs_request.specs.declared.fault.Fault.{Fault}
use Rattle.lfs_request.specs.declared.fault.Fault.TheVariants as fault
use Rattle.lfs_request.specs.declared.fault.Fault.TheVariants.{Image, Mount, Refused, JournalFormat, JournalMismatch, JournalImage}
use Rattle.lfs_request.specs.declared.outcome.Outcome.{Outcome}

-- what an image and the bytes of a journal denote; without any, nothing was done to the image
abbrev pub DenotesOn : Disk → List ℕ → History → Type 0
DenotesOn d [] h = (h ≡ fresh_history d) × IsHistory h
DenotesOn d (byte ∷ bytes) h = Opens d (byte ∷ bytes) h

-- what the bytes of an image, cut into blocks of a size, and those of a journal denote
abbrev pub Denotes : ℕ → List ℕ → List ℕ → History → Type 0
Denotes size image journal h = IsDisk (image_of size image) × DenotesOn (image_of size image) journal h

-- The steps are taken, all of them, on a history that is denoted. The outcome is the image and the journal of the history that they leave.
pub record IsChanged (steps : List Move) (Denoted : History → Type 0) (outcome : Outcome) : Type 0 where
  pub old : History
  pub denotes : Denoted old
  pub new : History
  pub takes : TakesAll steps old new
  pub image_is : outcome.image.items ≡ new.present.bytes
  pub journal_is : outcome.journal.items ≡ journal_bytes (journal_of new)

-- why nothing is opened: as for a journal that is there
abbrev pub RefusesJournal : OpenFault → Disk → List ℕ → Type 0
RefusesJournal fault disk journal = (journal ≢ []) × RefusesOpening fault disk journal

-- why an image and the bytes of a journal denote no history, or nobody can say
abbrev pub RefusesDenoting : OpenFault → Disk → List ℕ → Type 0
RefusesDenoting (opening.Mount fault) disk journal = HasCause disk fault
RefusesDenoting fault disk journal = RefusesJournal fault disk journal

-- behind so many of the steps one is refused, on the history to which these lead from the one that the image and the journal denote
pub record RefusesStep (steps : List Move) (at : ℕ) (disk : Disk) (journal : List ℕ) (why : StepFault) : Type 0 where
  pub old : History
  pub denotes : DenotesOn disk journal old
  pub mid : History
  pub stops : StopsAt steps at why old mid

-- of the commands that are one of the steps, one is refused, behind so many of them
abbrev pub RefusesPart : List Move → ℕ → Disk → List ℕ → Refusal → Type 0
RefusesPart steps at disk journal why = (place : ℕ) × RefusesStep steps place disk journal (RefusedAt at why)

-- how many could be done before what is refused: of the steps, or of the commands that are the one that is refused
abbrev pub place_of : ℕ → StepFault → ℕ
place_of at (RefusedAt within refusal) = within
place_of at fault = at

-- why an image isn't changed: a cause that it has, then what its journal is refused for, then what a step is; or want of memory
abbrev pub RefusesImage : List Move → ℕ → Disk → List ℕ → Fault → Type 0
RefusesImage steps at disk journal (Mount fault) = HasCause disk fault
RefusesImage steps at disk journal (Refused refusal) =
    (refusal ≡ Memory) ⊎ RefusesStep steps at disk journal (Refused_step refusal) ⊎ RefusesPart steps at disk journal refusal
RefusesImage steps at disk journal (fault.Step (Refused_step refusal)) = ⊥
RefusesImage steps at disk journal (fault.Step (RefusedAt within refusal)) = ⊥
RefusesImage steps at disk journal (fault.Step fault) = RefusesStep steps at disk journal fault
RefusesImage steps at disk journal JournalFormat = RefusesJournal opening.JournalFormat disk journal
RefusesImage steps at disk journal JournalMismatch = RefusesJournal opening.JournalMismatch disk journal
RefusesImage steps at disk journal JournalImage = RefusesJournal opening.JournalImage disk journal
RefusesImage steps at disk journal _ = ⊥

-- what steps on an image answer; with a fault, image and journal are those that were handed in
abbrev pub AnswersImage : Option Fault → List Move → Disk → List ℕ → Outcome → Type 0
AnswersImage None steps disk journal outcome = IsChanged steps (DenotesOn disk journal) outcome
AnswersImage (Some fault) steps disk journal outcome =
    (outcome.image.items ≡ disk.bytes) × (outcome.journal.items ≡ journal) × RefusesImage steps outcome.at disk journal fault

-- why bytes aren't changed: they are no image, or else as for an image
abbrev pub RefusesChange : List Move → ℕ → ℕ → List ℕ → List ℕ → Fault → Type 0
RefusesChange steps at size image journal (Image fault) = IsNoImage fault size image
RefusesChange steps at size image journal fault = IsDisk (image_of size image) × RefusesImage steps at (image_of size image) journal fault

-- what steps on bytes answer; with a fault, image and journal are those that were handed in
abbrev pub AnswersChange : Option Fault → List Move → ℕ → List ℕ → List ℕ → Outcome → Type 0
AnswersChange None steps size image journal outcome = IsChanged steps (Denotes size image journal) outcome
AnswersChange (Some fault) steps size image journal outcome =
    (outcome.image.items ≡ image) × (outcome.journal.items ≡ journal) × RefusesChange steps outcome.at size image journal fault
