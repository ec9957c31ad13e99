use Rattle.std.proofs.Common.{◌≡◌, ◌∙◌, arith, length}
use Rattle.lfs_listing.proofs.AttributeLemmas.{none_left}
use Rattle.lfs_listing.proofs.same_attributes.have_same_attributes.Goals as goal

pub returns : goal.returns
returns c =
    let all : c.each.index ≡ length c.args.attributes.now = omega (arith, c.each-test.false, c.each.auto.index-end) in
    none_left c.each.index c.args.attributes.now c.args.others.now all c.each.invariant.1 ∙ c.each.invariant.0
