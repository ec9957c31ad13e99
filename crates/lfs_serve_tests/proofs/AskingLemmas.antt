-- What asks changes no file, however it ends.
use Rattle.std.proofs.Common.{◌≡◌, ◌⊎◌, ℕ, Bool, List, Option, Some, None, refl, subst, inl, inr}
use Rattle.lfs_json.specs.declared.form.Form.{Form}
use Rattle.lfs_request.specs.declared.fault.Fault.{Fault}
use Rattle.lfs_request.specs.declared.fault.Fault.TheVariants.{Refused}
use Rattle.lfs_request.specs.declared.manner.Manner.{Manner}
use Rattle.lfs_request.specs.declared.outcome.Outcome.{Outcome}
use Rattle.lfs_request.specs.declared.query.Query.TheVariants as query
use Rattle.lfs_step.specs.declared.step.Step.{Step}
use Rattle.lfs_step.specs.declared.step.Step.TheVariants.{Ask}
use Rattle.lfs_request.specs.Query.{Question}
use Rattle.lfs_request.specs.Operation.{IsOperationInRange}
use Rattle.lfs_request.specs.declared.request.Request.{Request}
use Rattle.lfs_request.specs.declared.operation.Operation.{Operation}
use Rattle.lfs_request.specs.declared.operation.Operation.TheVariants as operation
use Rattle.lfs_exchange.specs.declared.step_kind.StepKind.{StepKind}
use Rattle.lfs_exchange.specs.declared.step_kind.StepKind.TheVariants.{Asks, Recounts}
use Rattle.lfs_host.specs.Files.{Files}
use Rattle.lfs_serve.specs.StepKind.{kind_of}
use Rattle.lfs_exchange.specs.Storing.{LeavesFiles, SparesFiles}
use Rattle.lfs_serve_tests.specs.Asking.{OnlyAsks}
use Rattle.lfs_host.specs.Scene.{Scene}
use Rattle.lfs_serve.specs.Program.{EndsRequest, EndsStep, EndsOperation, manner_of}

-- where the host refused something behind what asks, all files stay
all_spared : (fault : Fault) (kind : StepKind) (placed : Scene) (old new : Option Files) (name : List ℕ) (o : Outcome) → (kind ≡ Asks) ⊎ (kind ≡ Recounts)
    → SparesFiles fault kind placed old new name o → new ≡ old
all_spared (Refused refusal) kind placed old new name o asks same = same
all_spared fault kind placed old new name o (inl asks) spares =
    by_fault fault (subst (λ (k : StepKind). SparesFiles fault k placed old new name o) asks spares)
  where
    by_fault : (f : Fault) → SparesFiles f Asks placed old new name o → new ≡ old
    by_fault (Refused refusal) same = same
    by_fault _ same = same
all_spared fault kind placed old new name o (inr asks) spares =
    by_fault fault (subst (λ (k : StepKind). SparesFiles fault k placed old new name o) asks spares)
  where
    by_fault : (f : Fault) → SparesFiles f Recounts placed old new name o → new ≡ old
    by_fault (Refused refusal) same = same
    by_fault _ same = same

-- and where it is done
all_left : (kind : StepKind) (old new : Option Files) (name : List ℕ) (o : Outcome) → (kind ≡ Asks) ⊎ (kind ≡ Recounts)
    → LeavesFiles kind old new name o → new ≡ old
all_left kind old new name o (inl asks) leaves = subst (λ (k : StepKind). LeavesFiles k old new name o) asks leaves
all_left kind old new name o (inr asks) leaves = subst (λ (k : StepKind). LeavesFiles k old new name o) asks leaves

-- what asks is of one of two kinds
asks_of : (q : Question) (form : Form) → (kind_of (Ask q form) ≡ Asks) ⊎ (kind_of (Ask q form) ≡ Recounts)
asks_of (query.Check version most) form = inl refl
asks_of (query.Ls path digests) form = inl refl
asks_of (query.Blocks sums) form = inl refl
asks_of (query.Cat path) form = inl refl
asks_of (query.Diff other size quiet) form = inl refl
asks_of query.Log form = inr refl

step_keeps : (fault : Option Fault) (step : Step) (manner : Manner) (size : ℕ) (name : List ℕ) (old new : Scene)
    → (kind_of step ≡ Asks) ⊎ (kind_of step ≡ Recounts) → EndsStep step manner size name old new fault → new.files ≡ old.files
step_keeps None step manner size name old new asks (o, runs, leaves, flushed) = all_left (kind_of step) old.files new.files name o asks leaves
step_keeps (Some fault) step manner size name old new asks (inl (o, runs, same, handed)) = same
step_keeps (Some fault) step manner size name old new asks (inr (inl (why, keeps))) = keeps.0
step_keeps (Some fault) step manner size name old new asks (inr (inr (unwritten, (answered, complete, o, runs, spares)))) =
    all_spared fault (kind_of step) new old.files new.files name o asks spares

operation_keeps : (fault : Option Fault) (t : Operation) (older : Bool) (size : ℕ) (name : List ℕ) (old new : Scene) → OnlyAsks t
    → EndsOperation t older size name old new fault → new.files ≡ old.files
operation_keeps fault (operation.Ask query form view) older size name old new asks (inl (Ask question said, becomes, ends)) =
    step_keeps fault (Ask question said) (manner_of (operation.Ask query form view) older) size name old new (asks_of question said) ends
operation_keeps fault (operation.Ask query form view) older size name old new asks (inl (_, becomes, ends)) = absurd becomes
operation_keeps fault (operation.Ask query form view) older size name old new asks (inr (keeps, why)) = keeps.0
operation_keeps fault (operation.Extract dir path view) older size name old new asks ends = ends.0.0
operation_keeps fault (operation.Salvage dir view) older size name old new asks ends = ends.0.0
operation_keeps fault _ older size name old new only ends = absurd only

-- a request that asks changes no file
pub asking_keeps : (request : Request) (old new : Scene) (status : ℕ) → OnlyAsks request.operation → EndsRequest request old new status
    → new.files ≡ old.files
asking_keeps request old new status only is =
    elim is.ends [
      | inl (spared, ends) ↦ operation_keeps is.fault request.operation request.takes_older request.size request.image.now old new only ends
      | inr taken ↦ taken.3.0
    ]

-- and its caller owes nothing more
pub asking_in_range : (t : Operation) → OnlyAsks t → IsOperationInRange t
asking_in_range (operation.Ask query form view) only = tt
asking_in_range (operation.Extract dir path view) only = tt
asking_in_range (operation.Salvage dir view) only = tt
asking_in_range _ only = absurd only
