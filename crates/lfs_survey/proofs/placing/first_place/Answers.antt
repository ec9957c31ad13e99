-- Area by area.
use Rattle.lfs_survey.proofs.PlacingLemmas.{none_all, none_more, place_found}
use Rattle.lfs_survey.proofs.placing.first_place.Goals as goal

pub returns-in-Some : goal.returns-in-Some
returns-in-Some c =
    place_found c.args.fault c.deref-here-items.result.now c.args.survey.now.areas.items c.each.area c.here-item.result c.deref.result.now
    c.in-Some.call c.deref-here-items.ensures.value c.each-test.true c.here-item.is c.deref.ensures.value c.in-Some.ensures
    c.each.invariant

pub each-preserved : goal.each-preserved
each-preserved c =
    none_more c.args.fault c.deref-here-items.result.now c.args.survey.now.areas.items c.each.area c.here-item.result c.deref.result.now
    c.deref-here-items.ensures.value c.each-test.true c.here-item.is c.deref.ensures.value c.in_default.ensures c.each.invariant

pub returns : goal.returns
returns c =
    none_all c.args.fault c.deref-here-items.result.now c.args.survey.now.areas.items c.each.area c.deref-here-items.ensures.value
    c.each-test.false c.each.invariant
