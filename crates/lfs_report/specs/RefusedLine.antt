-- The line of a script for which none of its steps are done (own).
use Rattle.std.specs.Prelude.{ℕ, Bool, true, false, if◌then◌else◌, List, Option, Some, None, slice_get}
use Rattle.lfs_command.specs.declared.refusal.Refusal.TheVariants as refusal
use Rattle.lfs_request.specs.declared.fault.Fault.{Fault}
use Rattle.lfs_request.specs.declared.fault.Fault.TheVariants as fault
use Rattle.lfs_texts.specs.declared.flaw.Flaw.{Flaw}
use Rattle.lfs_texts.specs.declared.line_fault.LineFault.{LineFault}
use Rattle.lfs_texts.specs.declared.line_fault.LineFault.TheVariants.{Memory, BadHex, BadLine}
use Rattle.lfs_texts.specs.declared.script_line.ScriptLine.{ScriptLine}
use Rattle.lfs_report.specs.declared.stated.Statement.{Statement}
use Rattle.lfs_report.specs.declared.stated.Statement.TheVariants.{Line}
use Rattle.lfs_report.specs.declared.stop.Stop.{Stop}

-- what a fault of a line is told as
abbrev pub fault_of_line : LineFault → Fault
fault_of_line Memory = fault.Refused refusal.Memory
fault_of_line BadHex = fault.BadHex
fault_of_line BadLine = fault.BadLine

-- what is told of the line of a number: nothing where memory was refused
abbrev pub line_refused : ℕ → Fault → Option Flaw → Option Statement
line_refused number (fault.Refused refusal.Memory) flaw = None
line_refused number _ flaw = Some (Line number flaw)

-- a fault is of a step, and neither of the image and its journal nor want of memory
abbrev pub is_of_step : Fault → Bool
is_of_step (fault.Refused refusal.Memory) = false
is_of_step (fault.Refused _) = true
is_of_step (fault.Step _) = true
is_of_step _ = false

-- what is told where the step of a line is refused: the line's number
abbrev pub line_stated : Option ScriptLine → Option Statement → Option Statement
line_stated None statement = statement
line_stated (Some line) statement = Some (Line line.number None)

-- where a step is refused the line is told at its place among those that say steps; every other statement stays
abbrev pub numbered : List ScriptLine → Stop → Option Statement
numbered lines stop = if is_of_step stop.fault then line_stated (slice_get lines stop.at) stop.statement else stop.statement
