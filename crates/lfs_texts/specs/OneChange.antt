-- Scripts whose steps are one change (own).
use Rattle.std.specs.Prelude.{ℕ, Bool, true, false, if◌then◌else◌, Option, Some, None, List, [], ◌∷◌}
use Rattle.lfs_history.specs.declared.moves.Move.{Move}
use Rattle.lfs_history.specs.declared.moves.Move.TheVariants.{Do}
use Rattle.lfs_history.specs.declared.source.Source.{Source}
use Rattle.lfs_texts.specs.declared.line_fault.LineFault.TheVariants.{BadLine}
use Rattle.lfs_texts.specs.declared.reason.Reason.TheVariants.{NoCommand}
use Rattle.lfs_texts.specs.declared.script_fault.ScriptFault.{ScriptFault}
use Rattle.lfs_texts.specs.declared.script_line.ScriptLine.{ScriptLine}

-- a step is a command: only commands become one change
abbrev pub is_command_step : Move Source → Bool
is_command_step (Do command keep) = true
is_command_step _ = false

-- a line of this number says a step that is none, by its first word
abbrev pub no_command : ℕ → ScriptFault
no_command number = record { number = number; fault = BadLine; flaw = Some (record { reason = NoCommand; column = 1 }) }

-- the first of lines whose step is none
abbrev pub first_other : List ScriptLine → Option ScriptFault
first_other [] = None
first_other (line ∷ lines) = if is_command_step line.step then first_other lines else Some (no_command line.number)
