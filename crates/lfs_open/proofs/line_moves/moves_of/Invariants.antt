-- What the lines so far say.
use Rattle.std.proofs.Common.{◌≡◌, map, take}
use Rattle.lfs_history.specs.Meaning.{step_of}
use Rattle.lfs_open.specs.LineMoves.{moves_said}
use Rattle.lfs_open.proofs.line_moves.moves_of.Given as goal

abbrev pub invariant-each : goal.invariant-each
invariant-each l = map step_of l.moves.items ≡ moves_said (take l.at l.lines) (take l.at l.read)
