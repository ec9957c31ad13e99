-- One place after another.
use Rattle.std.proofs.Common.{List, arith, subst}
use Rattle.std.proofs.lemmas.List.{get_or_default, take_all}
use Rattle.lfs_survey.specs.Owned.{AreNoted}
use Rattle.lfs_survey.specs.declared.place.Place.{Place}
use Rattle.lfs_survey.proofs.OwnedLemmas.{noted_more}
use Rattle.lfs_survey.proofs.owners.own_all.Goals as goal

pub each-preserved : goal.each-preserved
each-preserved c =
    noted_more c.args.survey.now.areas.items c.args.parts.now c.each.place-index _ c.each.places c.own_pair.new.places c.each-test.true
    (get_or_default c.args.parts.now c.each.place-index _ _ c.each-test.true) c.own_pair.auto.places c.each.invariant c.own_pair.ensures

pub returns : goal.returns
returns c =
    subst (λ (ps : List Place). AreNoted c.args.survey.now.areas.items ps c.each.places)
    (take_all c.each.place-index c.args.parts.now (let test = c.each-test.false in omega arith)) c.each.invariant
