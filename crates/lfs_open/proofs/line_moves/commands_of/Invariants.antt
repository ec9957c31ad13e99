-- The commands among the steps so far.
use Rattle.std.proofs.Common.{◌≡◌, map, take}
use Rattle.lfs_command.specs.AskedFor.{asked_for}
use Rattle.lfs_history.specs.Meaning.{step_of}
use Rattle.lfs_open.specs.LineMoves.{commands_in}
use Rattle.lfs_open.proofs.line_moves.commands_of.Given as goal

abbrev pub invariant-each : goal.invariant-each
invariant-each l = map asked_for l.commands.items ≡ commands_in (map step_of (take l.step-index l.moves))
