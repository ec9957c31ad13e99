-- What goes to standard output (own).
use Rattle.std.specs.Prelude.{ℕ, ◌≡◌, ◌⊎◌, ⊤, List, Option}
use Rattle.std.specs.Io.KnownBytes.{Appends}
use Rattle.lfs_exchange.specs.declared.step_kind.StepKind.{StepKind}
use Rattle.lfs_exchange.specs.declared.step_kind.StepKind.TheVariants.{Asks, Recounts, Adopts}
use Rattle.lfs_host.specs.HostCall.{Flushing, Printing}
use Rattle.lfs_host.specs.Scene.{HasRefused, KeepsAll, KeepsText, Scene}
use Rattle.lfs_sink.specs.Send.{SendsBeginning}

-- a beginning of the text has gone out, or all of it
abbrev pub PrintsBeginning : Option (List ℕ) → Option (List ℕ) → List ℕ → Type 0
PrintsBeginning old new text = SendsBeginning old new text ⊎ Appends old new text

-- all that was printed is handed on
abbrev pub IsFlushed : Scene → Type 0
IsFlushed scene = scene.flushed ≡ scene.printed

-- the host has refused to print, or to hand on what was printed
abbrev pub HasRefusedOutput : Scene → Type 0
HasRefusedOutput scene = HasRefused scene Printing ⊎ HasRefused scene Flushing

-- so it is once a question is answered
abbrev pub HandsOn : StepKind → Scene → Type 0
HandsOn Asks scene = IsFlushed scene
HandsOn Recounts scene = IsFlushed scene
HandsOn _ scene = ⊤

-- so it is before a file changes of an image that is taken over: there is a host between, of which all is known that was known at first, and
-- which has handed on all that was printed; after it nothing is printed
abbrev pub HandsOnFirst : {H : Type 0} → (H → Scene) → StepKind → H → H → Type 0
HandsOnFirst {H} known Adopts old new =
    (between : H) × KeepsAll (known old) (known between) × IsFlushed (known between) × KeepsText (known between) (known new)
HandsOnFirst known _ old new = ⊤
