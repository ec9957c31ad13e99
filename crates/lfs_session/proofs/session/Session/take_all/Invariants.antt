use Rattle.std.proofs.Common.{map, take}
use Rattle.lfs_history.specs.Batch.{TakesAll}
use Rattle.lfs_history.specs.Meaning.{step_of}
use Rattle.lfs_session.proofs.session.Session.take_all.Given as goal

-- the steps so far are done
abbrev pub invariant-loop-at : goal.invariant-loop-at
invariant-loop-at l = TakesAll (map step_of (take l.at l.steps)) l.initial.self l.self
