use Rattle.lfs_history.specs.Moves.{Undoes, Repeats}
use Rattle.lfs_change.proofs.in_place.take_back_all.Given as goal

-- so many changes are taken back
abbrev pub invariant-loop : goal.invariant-loop
invariant-loop l = Repeats Undoes l.counter l.fn.session l.session
