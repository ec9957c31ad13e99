use Rattle.std.proofs.Common.{◌≡◌, List, ap, ◌∙◌, subst, sym, flat_map, ◌*◌, ◌≤◌, length}
use Rattle.std.specs.List.{AllByRecursion}
use Rattle.std.proofs.lemmas.List.{take_all}
use Rattle.lfs_find.specs.Found.{IsWithin, places_at, places_of}
use Rattle.lfs_find.specs.declared.place.Place.{Place}
use Rattle.lfs_find.proofs.PlacesLemmas.{few_places, places_within}
use Rattle.lfs_find.proofs.places.places_at.Goals as goal

pub returns-clause-within : goal.returns-clause-within
returns-clause-within c =
    let is : c.loop-size.places.items ≡ places_at c.args.bytes.now c.args.sizes.now c.args.from c.args.at =
    c.loop-size.invariant
    ∙ ap (flat_map (places_of c.args.bytes.now c.args.from c.args.at)) (take_all c.loop-size.size-index c.args.sizes.now c.loop-size-test.false) in
    subst (AllByRecursion (IsWithin c.args.bytes.now)) (sym is)
    (places_within c.args.bytes.now c.args.sizes.now c.args.from c.args.at c.requires.within)

pub returns-clause-few : goal.returns-clause-few
returns-clause-few c =
    let is : c.loop-size.places.items ≡ places_at c.args.bytes.now c.args.sizes.now c.args.from c.args.at =
    c.loop-size.invariant
    ∙ ap (flat_map (places_of c.args.bytes.now c.args.from c.args.at)) (take_all c.loop-size.size-index c.args.sizes.now c.loop-size-test.false) in
    subst (λ (ps : List Place). length ps ≤ 2 * length c.args.sizes.now) (sym is)
    (few_places c.args.bytes.now c.args.sizes.now c.args.from c.args.at)
