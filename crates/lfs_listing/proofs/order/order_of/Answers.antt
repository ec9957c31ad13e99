use Rattle.std.proofs.Common.{[], Bor, ap, sym, ◌∙◌, ◌≡◌, arith, get_or, length, ◌≤◌, ◌<◌}
use Rattle.lfs_meta.specs.Name.{Name}
use Rattle.lfs_listing.specs.Order.{name_order}
use Rattle.lfs_listing.proofs.OrderLemmas.{longer_last, names_agree, names_differ, shorter_first, tested_other, tested_same}
use Rattle.lfs_listing.proofs.order.order_of.Goals as goal

pub returns-in_default : goal.returns-in_default
returns-in_default c =
    sym (longer_last c.each.index c.args.left.now c.args.right.now c.each-test.true c.in_default.ensures.lookup.3) ∙ c.each.invariant

pub returns-then-ne : goal.returns-then-ne
returns-then-ne c =
    let there = c.in-Some.ensures.lookup in
    let other : Bor Name = c.in-Some.other.now in
    let is : other.now ≡ (get_or c.args.right.now c.each.index other).now = ap (λ (b : Bor Name). b.now) there.1 in
    let n : Name = (get_or c.args.left.now c.each.index (record { ref_ptr = (0, 0); now = [] })).now in
    c.name_order.ensures ∙ ap (name_order n) is
    ∙ sym (names_differ c.each.index c.args.left.now c.args.right.now _ other c.each-test.true there.3.0
    (λ same. tested_other n other.now c.if-ne.ensures (same ∙ sym is)))
    ∙ c.each.invariant

pub each-preserved : goal.each-preserved
each-preserved c =
    let there = c.in-Some.ensures.lookup in
    let other : Bor Name = c.in-Some.other.now in
    let is : other.now ≡ (get_or c.args.right.now c.each.index other).now = ap (λ (b : Bor Name). b.now) there.1 in
    let n : Name = (get_or c.args.left.now c.each.index (record { ref_ptr = (0, 0); now = [] })).now in
    sym (names_agree c.each.index c.args.left.now c.args.right.now _ other c.each-test.true there.3.0
    (tested_same n other.now c.if-ne.ensures ∙ is))
    ∙ c.each.invariant

pub returns-then-left-right : goal.returns-then-left-right
returns-then-left-right c =
    let over : length c.args.left.now ≤ c.each.index = omega (arith, c.each-test.false) in
    let within : c.each.index < length c.args.right.now = omega (arith, c.if-left-right.true, c.each.auto.index-end) in
    sym (shorter_first c.each.index c.args.left.now c.args.right.now over within) ∙ c.each.invariant
