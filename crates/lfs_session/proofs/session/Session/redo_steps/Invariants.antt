use Rattle.lfs_history.specs.Moves.{Redoes, Repeats}
use Rattle.lfs_session.proofs.session.Session.redo_steps.Given as goal

-- so many changes are made again
abbrev pub invariant-loop : goal.invariant-loop
invariant-loop l = Repeats Redoes l.counter l.fn.self l.self
