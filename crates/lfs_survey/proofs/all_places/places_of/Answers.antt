-- The places of one area more.
use Rattle.std.proofs.Common.{◌≡◌, ◌<◌, ◌++◌, ℕ, List, length, get_or, ap, ◌∙◌, arith, subst}
use Rattle.std.proofs.lemmas.Result.{err_from_is_err_and}
use Rattle.lfs_survey.specs.AllPlaces.{area_places}
use Rattle.lfs_survey.specs.declared.area.Area.{Area}
use Rattle.lfs_survey.proofs.AllPlacesLemmas.{places_more}
use Rattle.lfs_survey.proofs.all_places.places_of.Goals as goal

pub each-preserved : goal.each-preserved
each-preserved c =
    let areas = c.args.survey.now.areas.items in
    let here = c.here-item.result in
    let same : c.deref-here-items.result.now ≡ areas = c.deref-here-items.ensures.value in
    let within : c.each.area < length areas = subst (λ (xs : List Area). c.each.area < length xs) same c.each-test.true in
    let long : c.len.result ≡ length here.found.items = omega arith in
    places_more c.each.area areas here c.each.places.items c.add_area_places.new.places.items within
    (c.here-item.is ∙ ap (λ (xs : List Area). get_or xs c.each.area here) same) c.each.invariant
    (c.in_ok-add_area_places.ensures ∙ ap (λ (n : ℕ). c.each.places.items ++ area_places c.each.area n) long)

pub returns-in_err-add_area_places : goal.returns-in_err-add_area_places
returns-in_err-add_area_places c = rw (err_from_is_err_and c.from_residual.result c.from_residual.ensures.1).1 tt
