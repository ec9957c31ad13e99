-- How the steps of a script's lines end (own).
use Rattle.std.specs.Borrow.{Bor}
use Rattle.std.specs.Prelude.{◌≡◌, ◌⊎◌, ◌&&◌, ℕ, Bool, List, Option, Some, map}
use Rattle.lfs_request.specs.declared.fault.Fault.{Fault}
use Rattle.lfs_history.specs.Meaning.{OnBytes, step_of}
use Rattle.lfs_history.specs.Taking.{Move}
use Rattle.lfs_host.specs.Scene.{KeepsScene, Scene}
use Rattle.lfs_step.specs.Step.{may_take_older}
use Rattle.lfs_step.specs.declared.step.Step.TheVariants.{Change}
use Rattle.lfs_exchange.specs.Handing.{IsNotTakenUp}
use Rattle.lfs_exchange.specs.StepKind.{kind_of_steps}
use Rattle.lfs_serve.specs.Program.{EndsStep, as_it_is}

-- as one step that takes them all; or before that, with nothing changed, since a line says none, a file isn't read that it puts, or the
-- image's files aren't taken up
abbrev pub EndsLines : (List Move → Type 0) → (Fault → Type 0) → Bool → ℕ → List ℕ → Scene → Scene → Option Fault → Type 0
EndsLines becomes refused older size name old new fault =
    ((steps : Bor (List OnBytes)) × becomes (map step_of steps.now)
    × EndsStep (Change steps) (as_it_is (may_take_older (Change steps) && older)) size name old new fault)
    ⊎ (KeepsScene old new × ((why : Fault) × (fault ≡ Some why)
    × (refused why ⊎ ((moves : List Move) × becomes moves × IsNotTakenUp (kind_of_steps moves) new name why))))
