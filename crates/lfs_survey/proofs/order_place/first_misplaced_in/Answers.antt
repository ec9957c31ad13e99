-- Place by place.
use Rattle.lfs_survey.specs.Faults.{IsMisplaced}
use Rattle.lfs_survey.proofs.AllPlacesLemmas.{first_found, first_more, first_none}
use Rattle.lfs_survey.proofs.order_place.first_misplaced_in.Goals as goal

pub returns-then-is_misplaced : goal.returns-then-is_misplaced
returns-then-is_misplaced c =
    first_found (IsMisplaced c.args.survey.now.areas.items) c.args.places.now c.each.place-index _ c.each-test.true c.if-is_misplaced.ensures c.each.invariant

pub each-preserved : goal.each-preserved
each-preserved c =
    first_more (IsMisplaced c.args.survey.now.areas.items) c.args.places.now c.each.place-index _ c.each-test.true c.if-is_misplaced.ensures c.each.invariant

pub returns : goal.returns
returns c = first_none (IsMisplaced c.args.survey.now.areas.items) c.args.places.now c.each.place-index c.each-test.false c.each.invariant
