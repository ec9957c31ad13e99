-- The outcome of a run (own).
use Rattle.std.specs.Prelude.{ℕ, ◌≡◌, ◌∷◌, List, [], Option, map, MatchOption}
use Rattle.std.specs.Io.KnownBytes.{Keeps}
use Rattle.lfs_block.specs.Geometry.{IsGeometry}
use Rattle.lfs_block.specs.declared.image_fault.ImageFault.TheVariants.{BadGeometry}
use Rattle.lfs_fs.specs.declared.limits.Limits.{Limits}
use Rattle.lfs_command.specs.declared.refusal.Refusal.TheVariants.{Memory}
use Rattle.lfs_command.specs.Command.{Asked}
use Rattle.lfs_command.specs.Faults.{refusal_number}
use Rattle.lfs_journal.specs.Book.{book_of, journal_bytes}
use Rattle.lfs_edit.specs.Formatted.{IsFormatted}
use Rattle.lfs_request.specs.declared.fault.Fault.{Fault}
use Rattle.lfs_request.specs.declared.fault.Fault.TheVariants.{Image, Refused}
use Rattle.lfs_request.specs.declared.outcome.Outcome.{Outcome}
use Rattle.lfs_block.specs.Disk.{image_of}
use Rattle.lfs_change.specs.Change.{Denotes, IsChanged, RefusesChange}
use Rattle.lfs_change.specs.Forgetting.{IsForgotten, RefusesForgetting}
use Rattle.lfs_history.specs.Meaning.{step_of}
use Rattle.lfs_history.specs.Taking.{Together}
use Rattle.lfs_step.specs.Adopting.{LeavesTakenOver, RefusesTaking, SendsChanged}
use Rattle.lfs_step.specs.Asking.{RefusesQuery, SendsAsked}
use Rattle.lfs_pack.specs.declared.pack_row.PackRow.{PackRow}
use Rattle.lfs_pack.specs.Packed.{AreRowsOf, Packed}
use Rattle.lfs_pack.specs.Packing.{IsPacked, RefusesPack}
use Rattle.lfs_step.specs.declared.step.Step.{Step}
use Rattle.lfs_step.specs.declared.step.Step.TheVariants.{Format, Pack, Ask, Forget, Adopt, Change, Tree}
use Rattle.lfs_step.specs.TreeChanging.{IsAsked, RefusesTree}

-- what a step is done on: the size of a block, the bytes of the image and of the journal
pub record Given : Type 0 where
  pub size : ℕ
  pub image : List ℕ
  pub journal : List ℕ

-- the same, from its parts
abbrev pub given : ℕ → List ℕ → List ℕ → Given
given size image journal = record { size = size; image = image; journal = journal }

-- why no new image is made: its geometry, or want of memory
abbrev pub RefusesFormat : ℕ → ℕ → Fault → Type 0
RefusesFormat size count (Image BadGeometry) = ¬ IsGeometry size count
RefusesFormat size count (Refused refusal) = refusal_number refusal ≡ 44
RefusesFormat size count _ = ⊥

-- why no new image of rows is made: its geometry, where that is good the verdict of the next command of the rows, or want of memory
abbrev pub RefusesPacking : ℕ → ℕ → Limits → List PackRow → Fault → Type 0
RefusesPacking size count limits rows (Image BadGeometry) = ¬ IsGeometry size count
RefusesPacking size count limits rows (Refused Memory) = Unit {0}
RefusesPacking size count limits rows (Refused refusal) =
    IsGeometry size count × ((packed : List Packed) → AreRowsOf rows packed → RefusesPack size count limits packed refusal)
RefusesPacking size count limits rows _ = ⊥

-- the first fault of a step that holds, of several steps on a history that of the one behind so many, or want of memory
abbrev pub Refuses : Step → Given → ℕ → Fault → Type 0
Refuses (Format count limits) g at fault = RefusesFormat g.size count fault
Refuses (Pack count limits rows) g at fault = RefusesPacking g.size count limits rows.now fault
Refuses (Ask query form) g at fault = RefusesQuery query form g.size g.image g.journal fault
Refuses Forget g at fault = RefusesForgetting g.size g.image fault
Refuses (Adopt form replaces) g at fault = RefusesTaking replaces g.size g.image g.journal fault
Refuses (Change steps) g at fault = RefusesChange (map step_of steps.now) at g.size g.image g.journal fault
Refuses (Tree changing keep) g at fault = RefusesTree changing keep at g.size g.image g.journal fault

-- image and journal are those that the step was given
abbrev pub KeepsBoth : Given → Outcome → Type 0
KeepsBoth g outcome = (outcome.image.items ≡ g.image) × (outcome.journal.items ≡ g.journal)

-- the image and the journal once a step is done: a new image and a journal without changes, those that were given, the image that was
-- given and a journal without changes, that image taken over, or those of the history that steps leave, or the commands that a change of
-- a tree is
abbrev pub AnswersDone : Step → Given → Outcome → Type 0
AnswersDone (Format count limits) g outcome =
    IsFormatted g.size count limits outcome.image.items × (outcome.journal.items ≡ journal_bytes (book_of g.size count [] 0))
AnswersDone (Pack count limits rows) g outcome =
    ((packed : List Packed) → AreRowsOf rows.now packed → IsPacked g.size count limits packed outcome.image.items)
    × (outcome.journal.items ≡ journal_bytes (book_of g.size count [] 0))
AnswersDone (Ask query form) g outcome = KeepsBoth g outcome
AnswersDone Forget g outcome = IsForgotten g.size g.image outcome
AnswersDone (Adopt form replaces) g outcome = LeavesTakenOver replaces g.size g.image g.journal outcome
AnswersDone (Change steps) g outcome = IsChanged (map step_of steps.now) (Denotes g.size g.image g.journal) outcome
AnswersDone (Tree changing keep) g outcome =
    (asked : List Asked) × IsAsked changing (image_of g.size g.image) asked
    × IsChanged (Together asked keep ∷ []) (Denotes g.size g.image g.journal) outcome

-- what is answered; with a fault, image and journal are those that were given
abbrev pub Answers : Step → Given → Outcome → Type 0
Answers step g outcome =
    MatchOption outcome.fault (AnswersDone step g outcome) (λ fault. KeepsBoth g outcome × Refuses step g outcome.at fault)

-- what goes out of a step's text; only what is asked has one, and an image that is taken over
abbrev pub SendsText : Step → Given → Outcome → Option (List ℕ) → Option (List ℕ) → Type 0
SendsText (Ask query form) g outcome old new = SendsAsked query form (image_of g.size g.image) g.journal outcome.fault old new
SendsText (Adopt form replaces) g outcome old new =
    SendsChanged form (image_of g.size g.image) (image_of g.size outcome.image.items) outcome.fault old new
SendsText _ g outcome old new = Keeps old new
