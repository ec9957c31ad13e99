-- Lists of runs of any steps, each of which is handed the bytes that the one before left (own).
use Rattle.std.specs.Prelude.{◌≡◌, ◌⊎◌, ℕ, List, [], ◌∷◌, Option, Some, None, map}
use Rattle.std.specs.List.{AllByRecursion}
use Rattle.lfs_edit.specs.Formatted.{IsFormatted}
use Rattle.lfs_history.specs.Batch.{TakesAll}
use Rattle.lfs_history.specs.History.{History, fresh_history}
use Rattle.lfs_history.specs.Meaning.{step_of}
use Rattle.lfs_history.specs.Moves.{Forgets}
use Rattle.lfs_request.specs.declared.fault.Fault.{Fault}
use Rattle.lfs_request.specs.declared.outcome.Outcome.{Outcome}
use Rattle.lfs_adopt.specs.Adopted.{IsAdoptedImage}
use Rattle.lfs_adopt.specs.Changed.{changed_blocks}
use Rattle.lfs_change.specs.Change.{Denotes}
use Rattle.lfs_pack.specs.Packed.{AreRowsOf, Packed}
use Rattle.lfs_pack.specs.Packing.{IsPacked}
use Rattle.lfs_step.specs.declared.step.Step.{Step}
use Rattle.lfs_step.specs.declared.step.Step.TheVariants.{Format, Pack, Ask, Forget, Adopt, Change, Tree}
use Rattle.lfs_step.specs.TreeChanging.{ChangesTree}
use Rattle.lfs_step.specs.Outcome.{Answers, Given, Refuses, given}

-- the bytes of an image and of its journal
pub record BothFiles : Type 0 where
  pub image : List ℕ
  pub journal : List ℕ

-- a step, and what was answered to it
pub record Ran : Type 0 where
  pub step : Step
  pub outcome : Outcome

-- the image and the journal of an outcome
abbrev pub left_files : Outcome → BothFiles
left_files outcome = record { image = outcome.image.items; journal = outcome.journal.items }

-- each run is handed the image and the journal that the one before left
abbrev pub AreRunsInTurn : ℕ → List Ran → BothFiles → BothFiles → Type 0
AreRunsInTurn size [] old new = new ≡ old
AreRunsInTurn size (r ∷ rs) old new =
    Answers r.step (given size old.image old.journal) r.outcome × AreRunsInTurn size rs (left_files r.outcome) new

-- rows that are packed say what is packed, as it is taken
abbrev pub HasGoodRows : Step → Type 0
HasGoodRows (Pack count limits rows) = (packed : List Packed) × AreRowsOf rows.now packed
HasGoodRows _ = Unit {0}

-- an image that is taken over begins a history, or no block of it changes, and the history stays
abbrev pub GoesOver : History → History → Type 0
GoesOver old new =
    IsAdoptedImage old.present new.present
    × ((new ≡ fresh_history new.present) ⊎ ((new ≡ old) × (changed_blocks old.present new.present ≡ [])))

-- a new image begins a history, and has the root alone, or the map of its rows; a question leaves the history that was there, of which
-- all but the image may be forgotten; and a change is steps of it
abbrev pub GoesOn : ℕ → Step → History → History → Type 0
GoesOn size (Format count limits) old new = (new ≡ fresh_history new.present) × IsFormatted size count limits new.present.bytes
GoesOn size (Pack count limits rows) old new =
    (new ≡ fresh_history new.present)
    × ((packed : List Packed) → AreRowsOf rows.now packed → IsPacked size count limits packed new.present.bytes)
GoesOn size (Ask query form) old new = new ≡ old
GoesOn size Forget old new = Forgets old new
GoesOn size (Adopt form replaces) old new = GoesOver old new
GoesOn size (Change steps) old new = TakesAll (map step_of steps.now) old new
GoesOn size (Tree changing keep) old new = ChangesTree changing keep old new

-- a step that is refused leaves the history, and the cause holds of what it was given
abbrev pub GoesBy : Option Fault → ℕ → Step → Given → History → History → Type 0
GoesBy None at step g old new = GoesOn g.size step old new
GoesBy (Some fault) at step g old new = (new ≡ old) × Refuses step g at fault

-- one after another; what each leaves denotes the history to which it leads
abbrev pub GoOn : ℕ → List Ran → BothFiles → History → History → Type 0
GoOn size [] files old new = new ≡ old
GoOn size (r ∷ rs) files old new =
    (mid : History)
    × GoesBy r.outcome.fault r.outcome.at r.step (given size files.image files.journal) old mid
    × Denotes size r.outcome.image.items r.outcome.journal.items mid
    × GoOn size rs (left_files r.outcome) mid new

-- the last image and the last journal denote the history to which the runs lead
pub record LeadTo (size : ℕ) (rs : List Ran) (first last : BothFiles) (old : History) : Type 0 where
  pub new : History
  pub denotes : Denotes size last.image last.journal new
  pub goes : GoOn size rs first old new

-- the law: a list of runs leads from the history that the first image and journal denote to the one that the last denote
abbrev pub RunsGoOn : Type 0
RunsGoOn = (size : ℕ) (rs : List Ran) (first last : BothFiles) (old : History) → AllByRecursion (λ r. HasGoodRows r.step) rs
    → Denotes size first.image first.journal old → AreRunsInTurn size rs first last → LeadTo size rs first last old
