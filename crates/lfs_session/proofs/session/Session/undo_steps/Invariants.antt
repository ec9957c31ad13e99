use Rattle.lfs_history.specs.Moves.{Undoes, Repeats}
use Rattle.lfs_session.proofs.session.Session.undo_steps.Given as goal

-- so many changes are taken back
abbrev pub invariant-loop : goal.invariant-loop
invariant-loop l = Repeats Undoes l.counter l.fn.self l.self
