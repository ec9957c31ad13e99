use Rattle.std.proofs.Common.{append-nil, arith, sym}
use Rattle.lfs_listing.specs.Listing.{attribute_line}
use Rattle.lfs_listing.proofs.FlatLemmas.{flat_all, flat_more}
use Rattle.lfs_listing.proofs.attributes.append_attributes.Goals as goal

pub loop-attribute-init : goal.loop-attribute-init
loop-attribute-init c = sym (append-nil _)

pub loop-attribute-preserved : goal.loop-attribute-preserved
loop-attribute-preserved c =
    let a = c.attribute-item in
    flat_more attribute_line _ _ _ c.args.attributes.now c.loop-attribute.attribute-index a.result a.result (omega arith) a.is
    c.loop-attribute.invariant c.in_ok-append_attribute.ensures

pub returns : goal.returns
returns c = flat_all attribute_line _ _ c.args.attributes.now c.loop-attribute.attribute-index (omega arith) c.loop-attribute.invariant
