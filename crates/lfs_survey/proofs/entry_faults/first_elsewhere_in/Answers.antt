-- Place by place.
use Rattle.lfs_survey.specs.Faults.{IsElsewhere}
use Rattle.lfs_survey.proofs.AllPlacesLemmas.{first_found, first_more, first_none}
use Rattle.lfs_survey.proofs.entry_faults.first_elsewhere_in.Goals as goal

pub returns-then-is_elsewhere : goal.returns-then-is_elsewhere
returns-then-is_elsewhere c =
    first_found (IsElsewhere c.args.survey.now.areas.items) c.args.places.now c.each.place-index _ c.each-test.true c.if-is_elsewhere.ensures c.each.invariant

pub each-preserved : goal.each-preserved
each-preserved c =
    first_more (IsElsewhere c.args.survey.now.areas.items) c.args.places.now c.each.place-index _ c.each-test.true c.if-is_elsewhere.ensures c.each.invariant

pub returns : goal.returns
returns c = first_none (IsElsewhere c.args.survey.now.areas.items) c.args.places.now c.each.place-index c.each-test.false c.each.invariant
