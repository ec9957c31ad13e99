-- What a step of the code asks for (own).
use Rattle.std.specs.Prelude.{ℕ, List, map}
use Rattle.std.specs.Borrow.{Bor}
use Rattle.lfs_command.specs.AskedFor.{asked_for, command_by}
use Rattle.lfs_history.specs.declared.moves.Move.{Move as Written}
use Rattle.lfs_history.specs.declared.moves.Move.TheVariants as case
use Rattle.lfs_history.specs.Taking.{Move, Do, Together, Undo, Redo, Forget}

-- the step that is written, the bytes of its command read by a map; several commands have theirs in hand
abbrev pub step_by : {B : Type 0} → (B → List ℕ) → Written B → Move
step_by read (case.Do command keep) = Do (command_by (λ (text : Bor (List ℕ)). text.now) read command) keep
step_by read (case.Together commands keep) = Together (map asked_for commands.now) keep
step_by read (case.Undo steps) = Undo steps
step_by read (case.Redo steps) = Redo steps
step_by read case.Forget = Forget

-- a step of the code with its bytes in hand
abbrev pub OnBytes : Type 0
OnBytes = Written (Bor (List ℕ))

-- what it asks for
abbrev pub step_of : OnBytes → Move
step_of step = step_by (λ (bytes : Bor (List ℕ)). bytes.now) step
