-- What steps that aren't refused make of the image and of the journal.
use Rattle.std.proofs.Common.{◌≡◌, List, [], ◌∷◌, Option, None, Some, map, subst}
use Rattle.lfs_history.specs.Meaning.{step_of}
use Rattle.lfs_history.specs.Taking as move
use Rattle.lfs_history.specs.Taking.{Move, Do, Together, Undo, Redo}
use Rattle.lfs_request.specs.declared.fault.Fault.{Fault}
use Rattle.lfs_request.specs.declared.outcome.Outcome.{Outcome}
use Rattle.lfs_change.specs.Change.{Denotes, IsChanged}
use Rattle.lfs_change.specs.Laws.{ChangedBytesAreEquations, JournalsOfBytesGrowByTheNeed, JournalsOfBytesGrowOnTheKept}
use Rattle.lfs_change.specs.TogetherLaws.{BytesAreChangedTogether, JournalsOfBytesGrowByTheNeeds}
use Rattle.lfs_step.specs.declared.step.Step.{Step}
use Rattle.lfs_step.specs.declared.step.Step.TheVariants.{Change, Tree}
use Rattle.lfs_step.specs.Equations.{KeepsEquations, KeepsNeeds, MeetsEquation, MeetsNeed, MovesMeetEquation, MovesMeetNeed}
use Rattle.lfs_step.specs.Outcome.{Answers, AnswersDone, Given}
use Rattle.lfs_step.proofs.OutcomeLemmas.{AnswersBy}

-- a step that is answered without a fault is done
pub done : (step : Step) (g : Given) (outcome : Outcome) → Answers step g outcome → outcome.fault ≡ None → AnswersDone step g outcome
done step g outcome answers none = subst (λ (f : Option Fault). AnswersBy f step g outcome) none answers

moves_meet_equation : ChangedBytesAreEquations → BytesAreChangedTogether → (moves : List Move) (g : Given) (outcome : Outcome)
    → IsChanged moves (Denotes g.size g.image g.journal) outcome → MovesMeetEquation moves g outcome
moves_meet_equation law together (Do asked keep ∷ []) g outcome changes =
    λ v tree holds mounts. law asked keep g.size g.image g.journal outcome v tree changes holds mounts
moves_meet_equation law together (Do asked keep ∷ next ∷ moves) g outcome changes = tt
moves_meet_equation law together (Together asked keep ∷ []) g outcome changes =
    λ v tree holds mounts. together asked keep g.size g.image g.journal outcome v tree changes holds mounts
moves_meet_equation law together (Together asked keep ∷ next ∷ moves) g outcome changes = tt
moves_meet_equation law together (Undo many ∷ moves) g outcome changes = tt
moves_meet_equation law together (Redo many ∷ moves) g outcome changes = tt
moves_meet_equation law together (move.Forget ∷ moves) g outcome changes = tt
moves_meet_equation law together [] g outcome changes = tt

meets_equation : ChangedBytesAreEquations → BytesAreChangedTogether → (step : Step) (g : Given) (outcome : Outcome) → AnswersDone step g outcome
    → MeetsEquation step g outcome
meets_equation law together (Change steps) g outcome changes = moves_meet_equation law together (map step_of steps.now) g outcome changes
meets_equation law together (Tree changing keep) g outcome (asked, is, changes) = (
  asked,
  is,
  λ v tree holds mounts. together asked keep g.size g.image g.journal outcome v tree changes holds mounts,
)
meets_equation law together _ g outcome answers = tt

pub keeps_equations : ChangedBytesAreEquations → BytesAreChangedTogether → (step : Step) (g : Given) (outcome : Outcome) → Answers step g outcome
    → KeepsEquations step g outcome
keeps_equations law together step g outcome answers none = meets_equation law together step g outcome (done step g outcome answers none)

moves_meet_need : JournalsOfBytesGrowByTheNeed → JournalsOfBytesGrowOnTheKept → JournalsOfBytesGrowByTheNeeds → (moves : List Move) (g : Given) (outcome : Outcome)
    → IsChanged moves (Denotes g.size g.image g.journal) outcome → MovesMeetNeed moves g outcome
moves_meet_need law kept together (Do asked None ∷ []) g outcome changes = law asked None g.size g.image g.journal outcome changes
moves_meet_need law kept together (Do asked (Some keep) ∷ []) g outcome changes =
    (law asked (Some keep) g.size g.image g.journal outcome changes, kept asked (Some keep) g.size g.image g.journal outcome changes)
moves_meet_need law kept together (Do asked None ∷ next ∷ moves) g outcome changes = tt
moves_meet_need law kept together (Do asked (Some keep) ∷ next ∷ moves) g outcome changes = tt
moves_meet_need law kept together (Together (asked ∷ more) keep ∷ []) g outcome changes =
    together asked more keep g.size g.image g.journal outcome changes
moves_meet_need law kept together (Together [] keep ∷ []) g outcome changes = tt
moves_meet_need law kept together (Together [] keep ∷ next ∷ moves) g outcome changes = tt
moves_meet_need law kept together (Together (asked ∷ more) keep ∷ next ∷ moves) g outcome changes = tt
moves_meet_need law kept together (Undo many ∷ moves) g outcome changes = tt
moves_meet_need law kept together (Redo many ∷ moves) g outcome changes = tt
moves_meet_need law kept together (move.Forget ∷ moves) g outcome changes = tt
moves_meet_need law kept together [] g outcome changes = tt

meets_need : JournalsOfBytesGrowByTheNeed → JournalsOfBytesGrowOnTheKept → JournalsOfBytesGrowByTheNeeds → (step : Step) (g : Given) (outcome : Outcome)
    → AnswersDone step g outcome → MeetsNeed step g outcome
meets_need law kept together (Change steps) g outcome changes = moves_meet_need law kept together (map step_of steps.now) g outcome changes
meets_need law kept together (Tree changing keep) g outcome (asked, is, changes) =
    (asked, is, moves_meet_need law kept together (Together asked keep ∷ []) g outcome changes)
meets_need law kept together _ g outcome answers = tt

pub keeps_needs : JournalsOfBytesGrowByTheNeed → JournalsOfBytesGrowOnTheKept → JournalsOfBytesGrowByTheNeeds → (step : Step) (g : Given) (outcome : Outcome)
    → Answers step g outcome → KeepsNeeds step g outcome
keeps_needs law kept together step g outcome answers none = meets_need law kept together step g outcome (done step g outcome answers none)
