-- One step more is done; where it is refused the steps stop there.
use Rattle.lfs_session.proofs.BatchLemmas.{stops_at, takes_more}
use Rattle.lfs_session.proofs.session.Session.take_all.Goals as goal

pub returns-in-Err-clause-refused : goal.returns-in-Err-clause-refused
returns-in-Err-clause-refused c =
    stops_at c.args.steps.now c.loop-at.at _ c.in-Err.fault c.args.self.now c.loop-at.self c.step.new.self c.loop-at-test.true
    c.loop-at.invariant c.in-Err.ensures

pub loop-at-preserved : goal.loop-at-preserved
loop-at-preserved c =
    takes_more c.args.steps.now c.loop-at.at _ c.args.self.now c.loop-at.self c.step.new.self c.loop-at-test.true c.loop-at.invariant
    c.in_default.ensures
