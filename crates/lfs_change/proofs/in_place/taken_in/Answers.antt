-- As many changes are taken back as were made.
use Rattle.std.proofs.Common.{map}
use Rattle.lfs_history.specs.Meaning.{step_of}
use Rattle.lfs_change.proofs.ChangeLemmas.{stop_refuses}
use Rattle.lfs_change.proofs.TakenBackLemmas.{stopped_back, stopped_enough}
use Rattle.lfs_change.proofs.in_place.taken_in.Goals as goal

pub take_back_all-requires : goal.take_back_all-requires
take_back_all-requires c =
    stopped_enough (map step_of c.args.steps.now) c.in-Err.stopped.at c.in-Err.stopped.fault c.args.session.now c.take_all.new.self
    c.requires.fronts c.in-Err.ensures.refused

pub returns-in-Err-clause-refused : goal.returns-in-Err-clause-refused
returns-in-Err-clause-refused c = λ disk journal denotes.
    stop_refuses c.in-Err.stopped.fault (map step_of c.args.steps.now) c.in-Err.stopped.at disk journal c.args.session.now
    c.take_all.new.self denotes c.in-Err.ensures.refused

pub returns-in-Err-clause-unchanged : goal.returns-in-Err-clause-unchanged
returns-in-Err-clause-unchanged c =
    stopped_back (map step_of c.args.steps.now) c.in-Err.stopped.at c.in-Err.stopped.fault c.args.session.now c.take_all.new.self
    c.take_back_all.new.session c.requires.fronts c.in-Err.ensures.refused c.take_back_all.ensures
