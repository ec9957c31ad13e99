use Rattle.std.proofs.Common.{List, subst}
use Rattle.std.specs.Prelude.{IsSome}
use Rattle.std.proofs.lemmas.List.Elements.{All-tail}
use Rattle.lfs_fs.specs.declared.place.Place.{Place}
use Rattle.lfs_fs.specs.Placed.{entry_placed, ArePlaces}
use Rattle.lfs_fs.proofs.rows.RowsIterator.next.Goals as goal

pub invariant_of-self : goal.invariant_of-self
invariant_of-self c =
    let o = c.self.inside.outline.now in
    All-tail (λ (p : Place). IsSome (entry_placed o p)) c.in-Some.field-0-0.now c.in-Some.later.now
    (subst (λ (places : List Place). ArePlaces o places) c.in-Some.ensures.cases.0 c.self.invariant)
