-- Moves of a session, their replies, and runs of them (own).
use Rattle.std.specs.Prelude.{◌≡◌, ℕ, ◌<◌, List, [], ◌∷◌, Option, Some, None, length}
use Rattle.lfs_block.specs.Patch.{ChangeSet}
use Rattle.lfs_command.specs.Command.{Asked}
use Rattle.lfs_command.specs.Planned.{Plans, RefusesPlan}
use Rattle.lfs_history.specs.declared.step_fault.StepFault.{StepFault}
use Rattle.lfs_history.specs.declared.step_fault.StepFault.TheVariants.{Refused, RefusedAt, NothingToUndo, NothingToRedo}
use Rattle.lfs_history.specs.declared.step_fault.StepFault.TheVariants.{JournalFull}
use Rattle.lfs_history.specs.History.{History}
use Rattle.lfs_history.specs.Moves.{Pushes, Undoes, Redoes, Repeats, Forgets}
pub use Rattle.lfs_history.specs.Place.{MayKeep, HasPlace, IsFull}
use Rattle.lfs_history.specs.Together.{DoesTogether, IsFullFor, RefusesTogether}

-- A command is carried out, or several are as one change, and then so many images of the past are kept, or all of them where no number
-- is said; so many of the latest changes are taken back, or so many of those that were taken back last are made again, all of them or
-- none; all but the image is forgotten.
pub data Move : Type 0 where
  Do : (asked : Asked) → (keep : Option ℕ) → Move
  Together : (asked : List Asked) → (keep : Option ℕ) → Move
  Undo : (steps : ℕ) → Move
  Redo : (steps : ℕ) → Move
  Forget : Move

-- why a step is refused; none is done
abbrev pub Reply : Type 0
Reply = Option StepFault

-- what a move keeps may be kept: its caller owes it
abbrev pub KeepsInRange : Move → Type 0
KeepsInRange (Do asked keep) = MayKeep keep
KeepsInRange (Together asked keep) = MayKeep keep
KeepsInRange _ = Unit {0}

-- there is room for a change, and a patch that carries the command out on the present image is made
pub record Does (asked : Asked) (keep : Option ℕ) (old new : History) : Type 0 where
  pub room : HasPlace keep old
  pub change : ChangeSet
  pub plans : Plans old.present asked change
  pub pushes : Pushes change keep old new

-- From the old history, the step may get this reply and leave the new one.
abbrev pub Takes : Move → Reply → History → History → Type 0
Takes (Do asked keep) None old new = Does asked keep old new
Takes (Do asked keep) (Some JournalFull) old new = IsFull keep old × (new ≡ old)
Takes (Do asked keep) (Some (Refused r)) old new = HasPlace keep old × RefusesPlan old.present asked r × (new ≡ old)
Takes (Together asked keep) None old new = DoesTogether asked keep old new
Takes (Together asked keep) (Some JournalFull) old new = IsFullFor asked keep old × (new ≡ old)
Takes (Together asked keep) (Some (RefusedAt at r)) old new = HasPlace keep old × RefusesTogether old.present asked at r × (new ≡ old)
Takes (Undo steps) None old new = Repeats Undoes steps old new
Takes (Undo steps) (Some NothingToUndo) old new = (length old.past < steps) × (new ≡ old)
Takes (Redo steps) None old new = Repeats Redoes steps old new
Takes (Redo steps) (Some NothingToRedo) old new = (length old.future < steps) × (new ≡ old)
Takes Forget None old new = Forgets old new
-- no other reply is given
Takes _ _ old new = ⊥

-- the steps may get these replies, one after another
abbrev pub Run : List Move → List Reply → History → History → Type 0
Run [] [] old new = new ≡ old
Run (step ∷ steps) (reply ∷ replies) old new = (mid : History) × Takes step reply old mid × Run steps replies mid new
Run _ _ old new = ⊥
