-- Place by place.
use Rattle.lfs_survey.specs.Faults.{IsOver}
use Rattle.lfs_survey.proofs.AllPlacesLemmas.{first_found, first_more, first_none}
use Rattle.lfs_survey.proofs.entry_faults.first_over_in.Goals as goal

pub returns-then-is_over : goal.returns-then-is_over
returns-then-is_over c =
    first_found (IsOver c.args.limits c.args.survey.now.areas.items) c.args.places.now c.each.place-index _ c.each-test.true c.if-is_over.ensures c.each.invariant

pub each-preserved : goal.each-preserved
each-preserved c =
    first_more (IsOver c.args.limits c.args.survey.now.areas.items) c.args.places.now c.each.place-index _ c.each-test.true c.if-is_over.ensures c.each.invariant

pub returns : goal.returns
returns c = first_none (IsOver c.args.limits c.args.survey.now.areas.items) c.args.places.now c.each.place-index c.each-test.false c.each.invariant
