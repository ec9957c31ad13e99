-- Laws of histories (own).
use Rattle.std.specs.Prelude.{◌≡◌, ℕ, ◌-◌, List, [], ◌∷◌, ◌++◌, length, take, drop, reverse, Option, None, Some}
use Rattle.std.specs.List.{AllByRecursion}
use Rattle.lfs_block.specs.Disk.{Disk}
use Rattle.lfs_block.specs.Patch.{ChangeSet, applied}
use Rattle.lfs_fs.specs.Path.{Path}
use Rattle.lfs_fs.specs.Volume.{Volume}
use Rattle.lfs_fs.specs.Tree.{Node}
use Rattle.lfs_fs.specs.Reading.{reading_of}
use Rattle.lfs_fs.specs.Holds.{Holds}
use Rattle.lfs_fs.specs.Mounts.{Mounts}
use Rattle.lfs_command.specs.Command.{Command, Asked, Spells}
use Rattle.lfs_command.specs.Equation.{equation}
use Rattle.lfs_command.specs.Accepted.{Follows}
use Rattle.lfs_command.specs.Planned.{Plans}
use Rattle.lfs_history.specs.History.{History, IsHistory}
use Rattle.lfs_history.specs.Moves.{kept_images}
use Rattle.lfs_history.specs.Taking.{Move, Do, Undo, Redo, Reply, Does, Takes, Run}

-- the patched image holds a sound volume of the same size and limits, with as many blocks as the command leaves, whose tree is the
-- command's equation
pub record IsCarriedOut (asked : Asked) (e : Disk) (v : Volume) (t : Path → Option Node) : Type 0 where
  pub command : Command
  pub spells : Spells asked command
  pub volume : Volume
  pub holds : Holds (reading_of e) volume
  pub follows : Follows v command volume
  pub mounts : Mounts e (equation command t)

-- a patch that is planned for a command makes its equation of the tree that the image mounts to
abbrev pub CommandsAreEquations : Type 0
CommandsAreEquations = (d : Disk) (asked : Asked) (p : ChangeSet) (v : Volume) (t : Path → Option Node) → Plans d asked p
    → Holds (reading_of d) v → Mounts d t → IsCarriedOut asked (applied p d) v t

-- the old present is the nearest image of the past, of which what is said is kept, there is no future, and the new present makes the
-- command's equation
pub record PushesEquation (asked : Asked) (keep : Option ℕ) (old new : History) (v : Volume) (t : Path → Option Node) : Type 0 where
  pub past : new.past ≡ kept_images keep (old.present ∷ old.past)
  pub future : new.future ≡ []
  pub present : IsCarriedOut asked new.present v t

-- a command that is carried out puts an image in front that mounts to its equation of the tree of the one before
abbrev pub CommandsPushEquations : Type 0
CommandsPushEquations = (asked : Asked) (keep : Option ℕ) (old new : History) (v : Volume) (t : Path → Option Node)
    → Does asked keep old new → Holds (reading_of old.present) v → Mounts old.present t → PushesEquation asked keep old new v t

-- all images of a history, from the first one on
abbrev pub images : History → List Disk
images h = reverse h.past ++ h.present ∷ h.future

-- a step that takes changes back or makes them again
abbrev pub IsUndoOrRedo : Move → Type 0
IsUndoOrRedo (Undo steps) = Unit {0}
IsUndoOrRedo (Redo steps) = Unit {0}
IsUndoOrRedo _ = ⊥

-- undo and redo, in any list, keep all images, each byte for byte
abbrev pub UndoAndRedoKeepImages : Type 0
UndoAndRedoKeepImages = (steps : List Move) (replies : List Reply) (old new : History) → AllByRecursion IsUndoOrRedo steps
    → Run steps replies old new → images new ≡ images old

-- a run leaves a history
abbrev pub RunsKeepHistories : Type 0
RunsKeepHistories = (steps : List Move) (replies : List Reply) (old new : History) → Run steps replies old new → IsHistory old
    → IsHistory new

-- what is done and undone leaves the image and the images before it
abbrev pub UndoIsExact : Type 0
UndoIsExact = (asked : Asked) (old new : History) → Run (Do asked None ∷ Undo 1 ∷ []) (None ∷ None ∷ []) old new
    → (new.present ≡ old.present) × (new.past ≡ old.past) × (new.done ≡ old.done)

-- where a number of images is kept, it leaves the image, and of those before it the nearest that were kept beside it
abbrev pub UndoIsExactAsFarAsKept : Type 0
UndoIsExactAsFarAsKept = (asked : Asked) (keep : ℕ) (old new : History)
    → Run (Do asked (Some keep) ∷ Undo 1 ∷ []) (None ∷ None ∷ []) old new
    → (new.present ≡ old.present) × (new.past ≡ take (keep - 1) old.past)
    × (new.done ≡ drop (length old.done - (keep - 1)) old.done)

-- what is undone and redone leaves the history, however many changes it is
abbrev pub RedoIsExact : Type 0
RedoIsExact = (steps : ℕ) (old new : History) → Run (Undo steps ∷ Redo steps ∷ []) (None ∷ None ∷ []) old new → new ≡ old

-- a step keeps the size of the blocks
abbrev pub StepsKeepSize : Type 0
StepsKeepSize = (step : Move) (reply : Reply) (old new : History) → IsHistory old → Takes step reply old new
    → new.present.size ≡ old.present.size
