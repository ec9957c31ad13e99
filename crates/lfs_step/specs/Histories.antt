-- Which history the bytes denote that a step leaves (own).
use Rattle.std.specs.Prelude.{◌≡◌, Bool, true, false, List, None, map}
use Rattle.lfs_history.specs.Batch.{TakesAll}
use Rattle.lfs_history.specs.History.{History, fresh_history}
use Rattle.lfs_history.specs.Meaning.{step_of}
use Rattle.lfs_request.specs.declared.outcome.Outcome.{Outcome}
use Rattle.lfs_adopt.specs.Changed.{changed_blocks}
use Rattle.lfs_block.specs.Disk.{image_of}
use Rattle.lfs_change.specs.Change.{Denotes}
use Rattle.lfs_pack.specs.Packed.{AreRowsOf, Packed}
use Rattle.lfs_step.specs.declared.step.Step.{Step}
use Rattle.lfs_step.specs.declared.step.Step.TheVariants.{Format, Pack, Ask, Forget, Adopt, Change, Tree}
use Rattle.lfs_step.specs.Adopting.{journal_stays}
use Rattle.lfs_step.specs.Outcome.{AnswersDone, Given}
use Rattle.lfs_step.specs.TreeChanging.{ChangesTree}

-- the image and the journal that are left denote this history
abbrev pub Leaves : Given → Outcome → History → Type 0
Leaves g outcome h = Denotes g.size outcome.image.items outcome.journal.items h

-- an image that is taken over begins a history, whatever the journal was, unless the journal stays and with it what it denoted
abbrev pub LeavesAdopted : Bool → Given → Outcome → Type 0
LeavesAdopted true g outcome = (old : History) → Denotes g.size g.image g.journal old → Leaves g outcome old
LeavesAdopted false g outcome = Leaves g outcome (fresh_history (image_of g.size outcome.image.items))

-- A new image, empty or of rows, begins a history, and so does one of which all else is forgotten, whatever the journal was. A question
-- leaves the history that image and journal denoted, and a change leaves the one to which its steps lead from there.
abbrev pub LeavesHistory : Step → Given → Outcome → Type 0
LeavesHistory (Format count limits) g outcome = Leaves g outcome (fresh_history (image_of g.size outcome.image.items))
LeavesHistory (Pack count limits rows) g outcome =
    (packed : List Packed) → AreRowsOf rows.now packed → Leaves g outcome (fresh_history (image_of g.size outcome.image.items))
LeavesHistory (Ask query form) g outcome = (old : History) → Denotes g.size g.image g.journal old → Leaves g outcome old
LeavesHistory Forget g outcome = Leaves g outcome (fresh_history (image_of g.size g.image))
LeavesHistory (Adopt form replaces) g outcome =
    LeavesAdopted (journal_stays (changed_blocks (image_of g.size g.image) (image_of g.size outcome.image.items)) g.journal) g outcome
LeavesHistory (Change steps) g outcome =
    (old : History) → Denotes g.size g.image g.journal old
    → (new : History) × TakesAll (map step_of steps.now) old new × Leaves g outcome new
LeavesHistory (Tree changing keep) g outcome =
    (old : History) → Denotes g.size g.image g.journal old → (new : History) × ChangesTree changing keep old new × Leaves g outcome new

-- the law: what a step that is done answers denotes such a history
abbrev pub StepsLeaveHistories : Type 0
StepsLeaveHistories = (step : Step) (g : Given) (outcome : Outcome) → AnswersDone step g outcome → LeavesHistory step g outcome

-- a step that isn't refused leaves bytes that denote it
abbrev pub KeepsHistories : Step → Given → Outcome → Type 0
KeepsHistories step g outcome = outcome.fault ≡ None → LeavesHistory step g outcome
