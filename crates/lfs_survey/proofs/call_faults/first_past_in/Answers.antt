-- Place by place.
use Rattle.lfs_survey.specs.Faults.{GoesOnPast}
use Rattle.lfs_survey.proofs.AllPlacesLemmas.{first_found, first_more, first_none}
use Rattle.lfs_survey.proofs.call_faults.first_past_in.Goals as goal

pub returns-then-goes_on_past : goal.returns-then-goes_on_past
returns-then-goes_on_past c =
    first_found (GoesOnPast c.args.count c.args.survey.now.areas.items) c.args.places.now c.each.place-index _ c.each-test.true c.if-goes_on_past.ensures c.each.invariant

pub each-preserved : goal.each-preserved
each-preserved c =
    first_more (GoesOnPast c.args.count c.args.survey.now.areas.items) c.args.places.now c.each.place-index _ c.each-test.true c.if-goes_on_past.ensures c.each.invariant

pub returns : goal.returns
returns c = first_none (GoesOnPast c.args.count c.args.survey.now.areas.items) c.args.places.now c.each.place-index c.each-test.false c.each.invariant
