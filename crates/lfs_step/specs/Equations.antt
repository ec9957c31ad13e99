-- What a command that is done makes of the image and of the journal (own).
use Rattle.std.specs.Prelude.{◌≡◌, List, [], ◌∷◌, Option, None, Some, map}
use Rattle.lfs_command.specs.Command.{Asked}
use Rattle.lfs_fs.specs.Path.{Path}
use Rattle.lfs_fs.specs.Volume.{Volume}
use Rattle.lfs_fs.specs.Tree.{Node}
use Rattle.lfs_fs.specs.Reading.{reading_of}
use Rattle.lfs_fs.specs.Holds.{Holds}
use Rattle.lfs_fs.specs.Mounts.{Mounts}
use Rattle.lfs_history.specs.Laws.{IsCarriedOut}
use Rattle.lfs_history.specs.Meaning.{step_of}
use Rattle.lfs_history.specs.Taking.{Move, Do, Together}
use Rattle.lfs_history.specs.Together.{AreCarriedOut}
use Rattle.lfs_request.specs.declared.outcome.Outcome.{Outcome}
use Rattle.lfs_block.specs.Disk.{image_of}
use Rattle.lfs_change.specs.Laws.{GrowsByTheNeed, GrowsOnTheKept}
use Rattle.lfs_change.specs.TogetherLaws.{GrowsByTheNeeds}
use Rattle.lfs_step.specs.declared.step.Step.{Step}
use Rattle.lfs_step.specs.declared.step.Step.TheVariants.{Change, Tree}
use Rattle.lfs_step.specs.TreeChanging.{IsAsked}
use Rattle.lfs_step.specs.Outcome.{Given}

-- an image that commands are done on as one change mounts to their equations of the tree before, one after another
abbrev pub MeetsEquations : List Asked → Given → Outcome → Type 0
MeetsEquations asked g outcome =
    (v : Volume) (tree : Path → Option Node) → Holds (reading_of (image_of g.size g.image)) v → Mounts (image_of g.size g.image) tree
    → AreCarriedOut asked (image_of g.size outcome.image.items) v tree

-- an image that a command alone is done on mounts to the command's equation of the tree before, with the same size and limits, and with
-- as many blocks as the command leaves
abbrev pub MovesMeetEquation : List Move → Given → Outcome → Type 0
MovesMeetEquation (Do asked keep ∷ []) g outcome =
    (v : Volume) (tree : Path → Option Node) → Holds (reading_of (image_of g.size g.image)) v → Mounts (image_of g.size g.image) tree
    → IsCarriedOut asked (image_of g.size outcome.image.items) v tree
MovesMeetEquation (Together asked keep ∷ []) g outcome = MeetsEquations asked g outcome
MovesMeetEquation _ g outcome = Unit {0}

-- so does one that a step is done on
abbrev pub MeetsEquation : Step → Given → Outcome → Type 0
MeetsEquation (Change steps) g outcome = MovesMeetEquation (map step_of steps.now) g outcome
MeetsEquation (Tree changing keep) g outcome =
    (asked : List Asked) × IsAsked changing (image_of g.size g.image) asked × MeetsEquations asked g outcome
MeetsEquation _ g outcome = Unit {0}

-- a step that isn't refused does
abbrev pub KeepsEquations : Step → Given → Outcome → Type 0
KeepsEquations step g outcome = outcome.fault ≡ None → MeetsEquation step g outcome

-- the journal grows by no more than the need of a command alone that is done; where a number of images is kept, so does what is kept of
-- it
abbrev pub MovesMeetNeed : List Move → Given → Outcome → Type 0
MovesMeetNeed (Do asked None ∷ []) g outcome = GrowsByTheNeed asked g.size g.image g.journal outcome
MovesMeetNeed (Do asked (Some keep) ∷ []) g outcome =
    GrowsByTheNeed asked g.size g.image g.journal outcome × GrowsOnTheKept asked (Some keep) g.size g.image g.journal outcome
MovesMeetNeed (Together (asked ∷ more) keep ∷ []) g outcome = GrowsByTheNeeds (asked ∷ more) g.size g.image g.journal outcome
MovesMeetNeed _ g outcome = Unit {0}

-- so it does by a step
abbrev pub MeetsNeed : Step → Given → Outcome → Type 0
MeetsNeed (Change steps) g outcome = MovesMeetNeed (map step_of steps.now) g outcome
MeetsNeed (Tree changing keep) g outcome =
    (asked : List Asked) × IsAsked changing (image_of g.size g.image) asked × MovesMeetNeed (Together asked keep ∷ []) g outcome
MeetsNeed _ g outcome = Unit {0}

-- the same of a step that isn't refused
abbrev pub KeepsNeeds : Step → Given → Outcome → Type 0
KeepsNeeds step g outcome = outcome.fault ≡ None → MeetsNeed step g outcome
