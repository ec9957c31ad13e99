use Rattle.std.proofs.Common.{◌≡◌, true, [], List, ap, sym, refl, ◌∙◌, subst}
use Rattle.std.specs.List.{list_any, All}
use Rattle.lfs_fs.specs.declared.place.Place.{Place}
use Rattle.lfs_fs.specs.Ordered.{IsWalking}
use Rattle.lfs_fs.proofs.FlaggedLemmas.{some_unset, all_set}
use Rattle.lfs_fs.proofs.WaitingLemmas.{none_waits}
use Rattle.lfs_fs.proofs.WalkingLemmas.{walking_end, walking_orphan}
use Rattle.lfs_fs.proofs.order.order_of.Goals as goal

pub returns-then-contains-clause-refused : goal.returns-then-contains-clause-refused
returns-then-contains-clause-refused c =
    let o = c.args.outline.now in
    let old = c.loop-walk.walk in
    let empty = none_waits c.in_ok-place.field-0 old.waiting c.take_next.new.self c.in_default.not-Some c.in_ok-place.ensures.taken in
    let walking : IsWalking o old.table.entries old.order.items [] old.opened.items =
    subst (λ (xs : List Place). IsWalking o old.table.entries old.order.items xs old.opened.items) empty c.loop-walk.invariant in
    let one = some_unset _ old.opened.items refl (ap (list_any _) (sym c.deref.ensures.value) ∙ sym c.contains.ensures.value
    ∙ c.if-contains.true) in
    walking_orphan o old.table.entries old.order.items old.opened.items one.0 one.1 walking

pub returns-clause-listed : goal.returns-clause-listed
returns-clause-listed c =
    let o = c.args.outline.now in
    let old = c.loop-walk.walk in
    let empty = none_waits c.in_ok-place.field-0 old.waiting c.take_next.new.self c.in_default.not-Some c.in_ok-place.ensures.taken in
    let walking : IsWalking o old.table.entries old.order.items [] old.opened.items =
    subst (λ (xs : List Place). IsWalking o old.table.entries old.order.items xs old.opened.items) empty c.loop-walk.invariant in
    let all : All (λ b. b ≡ true) old.opened.items = all_set _ old.opened.items refl
    (ap (list_any _) (sym c.deref.ensures.value) ∙ sym c.contains.ensures.value ∙ c.if-contains.false) in
    walking_end o old.table.entries old.order.items old.opened.items all walking

pub returns-clause-counted : goal.returns-clause-counted
returns-clause-counted c =
    let o = c.args.outline.now in
    let old = c.loop-walk.walk in
    let empty = none_waits c.in_ok-place.field-0 old.waiting c.take_next.new.self c.in_default.not-Some c.in_ok-place.ensures.taken in
    let walking : IsWalking o old.table.entries old.order.items [] old.opened.items =
    subst (λ (xs : List Place). IsWalking o old.table.entries old.order.items xs old.opened.items) empty c.loop-walk.invariant in
    let all : All (λ b. b ≡ true) old.opened.items = all_set _ old.opened.items refl
    (ap (list_any _) (sym c.deref.ensures.value) ∙ sym c.contains.ensures.value ∙ c.if-contains.false) in
    (walking_end o old.table.entries old.order.items old.opened.items all walking).counted
