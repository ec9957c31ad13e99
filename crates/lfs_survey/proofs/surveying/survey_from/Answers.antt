-- At each pair it is found what is there, and the pairs that it leads to are added.
use Rattle.std.proofs.Common.{◌≡◌, ◌<◌, length, arith}
use Rattle.std.proofs.lemmas.Result.{err_from_is_err_and}
use Rattle.lfs_survey.proofs.AreaLemmas.{under_way_next}
use Rattle.lfs_survey.proofs.surveying.survey_from.Goals as goal

pub looking-preserved : goal.looking-preserved
looking-preserved g c =
    let len : c.len-from.result ≡ length c.looking.found.items = omega arith in
    let within : c.len-from.result < length c.looking.calls.items = omega arith in
    under_way_next (g.B.Blocks.disk c.args.blocks.now) c.args.looked.now c.looking.looked c.look_at.new.looked c.args.start
    c.looking.calls.items c.call_all.new.calls.items c.looking.found.items c.push-in-looking.new.self.items c.index.result.now
    c.in_ok-here.here c.len-from.result len c.in_ok-push-2.ensures.items c.looking.invariant within c.index.ensures
    c.in_ok-here.ensures.found c.in_ok-here.ensures.looked c.in_ok-call_all.ensures

pub returns-in_err-push-clause-area : goal.returns-in_err-push-clause-area
returns-in_err-push-clause-area g c = rw (err_from_is_err_and c.from_residual.result c.from_residual.ensures.1).1 tt

pub returns-in_err-push-clause-looked : goal.returns-in_err-push-clause-looked
returns-in_err-push-clause-looked g c = rw (err_from_is_err_and c.from_residual.result c.from_residual.ensures.1).1 tt

pub returns-in_err-here-clause-area : goal.returns-in_err-here-clause-area
returns-in_err-here-clause-area g c = rw (err_from_is_err_and c.from_residual-in_err-here.result c.from_residual-in_err-here.ensures.1).1 tt

pub returns-in_err-here-clause-looked : goal.returns-in_err-here-clause-looked
returns-in_err-here-clause-looked g c = rw (err_from_is_err_and c.from_residual-in_err-here.result c.from_residual-in_err-here.ensures.1).1 tt

pub returns-in_err-call_all-clause-area : goal.returns-in_err-call_all-clause-area
returns-in_err-call_all-clause-area g c = rw (err_from_is_err_and c.from_residual-in_err-call_all.result c.from_residual-in_err-call_all.ensures.1).1 tt

pub returns-in_err-call_all-clause-looked : goal.returns-in_err-call_all-clause-looked
returns-in_err-call_all-clause-looked g c = rw (err_from_is_err_and c.from_residual-in_err-call_all.result c.from_residual-in_err-call_all.ensures.1).1 tt

pub returns-in_err-push-2-clause-area : goal.returns-in_err-push-2-clause-area
returns-in_err-push-2-clause-area g c = rw (err_from_is_err_and c.from_residual-in_err-push-2.result c.from_residual-in_err-push-2.ensures.1).1 tt

pub returns-in_err-push-2-clause-looked : goal.returns-in_err-push-2-clause-looked
returns-in_err-push-2-clause-looked g c = rw (err_from_is_err_and c.from_residual-in_err-push-2.result c.from_residual-in_err-push-2.ensures.1).1 tt
