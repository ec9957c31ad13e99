-- One number more.
use Rattle.std.proofs.Common.{ℕ}
use Rattle.lfs_survey.specs.declared.place.Place.{Place}
use Rattle.lfs_survey.proofs.AllPlacesLemmas.{pushed_more}
use Rattle.lfs_survey.proofs.all_places.add_area_places.Goals as goal

pub loop-call-preserved : goal.loop-call-preserved
loop-call-preserved c =
    let at : ℕ → Place = λ call. record { area = c.args.area; call = call } in
    pushed_more at c.args.places.now.items c.loop-call.places.items c.push.new.self.items c.loop-call.call c.loop-call.invariant
    c.in_ok-push.ensures.items
