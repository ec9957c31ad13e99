use Rattle.std.proofs.Common.{◌≤◌, List, None, Option, ap, arith, subst, sym, ◌∙◌}
use Rattle.std.specs.Prelude.{IfSome}
use Rattle.lfs_find.specs.Found.{IsBest, IsWithin, costs}
use Rattle.lfs_find.specs.declared.found.Found.{Found}
use Rattle.lfs_find.specs.declared.place.Place.{Place}
use Rattle.lfs_find.proofs.LookLemmas.{can_look}
use Rattle.lfs_find.proofs.PlacesLemmas.{best_within, small_costs}
use Rattle.lfs_find.proofs.finding.look.Goals as goal

pub costs-requires : goal.costs-requires
costs-requires c =
    let ps = c.in_ok-places.places.items in
    let small = small_costs c.args.bytes.now ps c.in_ok-places.ensures.within in
    let few : costs ps ≤ 32800 = omega (arith, small, c.in_ok-places.ensures.few, c.requires.few) in
    subst (λ (qs : List Place). costs qs ≤ 32800) (sym c.deref-2.ensures.value) few

pub overflow_add-behind : goal.overflow_add-behind
overflow_add-behind c =
    let ps = c.in_ok-places.places.items in
    let small = small_costs c.args.bytes.now ps c.in_ok-places.ensures.within in
    let same = c.costs.ensures ∙ ap costs c.deref-2.ensures.value in
    omega (arith, small, c.in_ok-places.ensures.few, c.requires.few, same)

pub overflow_add-behind-2 : goal.overflow_add-behind-2
overflow_add-behind-2 c =
    let ps = c.in_ok-places.places.items in
    let small = small_costs c.args.bytes.now ps c.in_ok-places.ensures.within in
    let same = c.costs.ensures ∙ ap costs c.deref-2.ensures.value in
    let can = can_look c.args.bytes.now c.args.search c.args.at c.requires.within c.requires.looked in
    omega (arith, small, c.in_ok-places.ensures.few, c.requires.few, same, can.spent, c.ranges.at)

pub pass-requires : goal.pass-requires
pass-requires c =
    let bytes = c.args.bytes.now in
    let is : IsBest bytes c.in_ok-places.places.items None c.in_ok-best.best =
    subst (λ (ps : List Place). IsBest bytes ps None c.in_ok-best.best) c.deref.ensures.value c.in_ok-best.ensures in
    let best = best_within bytes (IsWithin bytes) c.in_ok-places.places.items None c.in_ok-best.best c.in_ok-places.ensures.within tt is in
    let within : IsWithin bytes c.in-Some.best.place =
    subst (λ (o : Option Found). IfSome o (λ f. IsWithin bytes f.place)) c.in-Some.is best in
    omega (arith, within.0)
