-- Place by place.
use Rattle.std.proofs.Common.{◌∙◌}
use Rattle.std.proofs.lemmas.Result.{err_from_is_err_and}
use Rattle.lfs_survey.proofs.SharedLemmas.{shared_found, shared_none}
use Rattle.lfs_survey.proofs.shared_place.first_shared_in.Goals as goal

pub returns-in-Err : goal.returns-in-Err
returns-in-Err g c =
    shared_found (g.B.Blocks.disk c.args.blocks.now) c.args.table.now c.args.survey.now.areas.items c.args.places.now c.each.place-index _
    c.each-test.true c.each.table c.deref.result.now c.in-Err.field-0 (c.deref.ensures.value ∙ c.in_ok-chain.ensures)
    c.each.invariant.marks c.each.invariant.len c.in-Err.ensures.refused

pub returns : goal.returns
returns g c =
    shared_none (g.B.Blocks.disk c.args.blocks.now) c.args.table.now c.each.table c.args.survey.now.areas.items c.args.places.now
    c.each.place-index c.each-test.false c.each.invariant.marks

pub returns-in_err-chain : goal.returns-in_err-chain
returns-in_err-chain g c = rw (err_from_is_err_and c.from_residual.result c.from_residual.ensures.1).1 tt
