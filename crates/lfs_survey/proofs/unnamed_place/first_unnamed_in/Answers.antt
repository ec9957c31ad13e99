-- Place by place.
use Rattle.lfs_survey.specs.PairKeys.{BeginsNothing}
use Rattle.lfs_survey.proofs.AllPlacesLemmas.{first_found, first_more, first_none}
use Rattle.lfs_survey.proofs.unnamed_place.first_unnamed_in.Goals as goal

pub returns-then-begins_nothing : goal.returns-then-begins_nothing
returns-then-begins_nothing c =
    first_found (BeginsNothing c.args.survey.now.areas.items) c.args.places.now c.each.place-index _ c.each-test.true c.if-begins_nothing.ensures c.each.invariant

pub each-preserved : goal.each-preserved
each-preserved c =
    first_more (BeginsNothing c.args.survey.now.areas.items) c.args.places.now c.each.place-index _ c.each-test.true c.if-begins_nothing.ensures c.each.invariant

pub returns : goal.returns
returns c = first_none (BeginsNothing c.args.survey.now.areas.items) c.args.places.now c.each.place-index c.each-test.false c.each.invariant
