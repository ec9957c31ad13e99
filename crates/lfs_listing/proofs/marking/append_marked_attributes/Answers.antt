use Rattle.std.proofs.Common.{◌++◌, ◌∙◌, List, ap, append-nil, append_assoc, arith, sym, ℕ}
use Rattle.lfs_listing.specs.Listing.{attribute_line}
use Rattle.lfs_listing.proofs.FlatLemmas.{flat_all, flat_more}
use Rattle.lfs_listing.proofs.marking.append_marked_attributes.Goals as goal

pub loop-attribute-init : goal.loop-attribute-init
loop-attribute-init c = sym (append-nil _)

pub loop-attribute-preserved : goal.loop-attribute-preserved
loop-attribute-preserved c =
    let a = c.attribute-item in
    let line : List ℕ = attribute_line a.result in
    flat_more (λ a. c.args.mark.now ++ attribute_line a) _ _ _ c.args.attributes.now c.loop-attribute.attribute-index a.result a.result (omega arith)
    a.is c.loop-attribute.invariant
    (c.in_ok-append_attribute.ensures ∙ ap (λ (text : List ℕ). text ++ line) c.in_ok-extend_from_slice.ensures.items ∙ append_assoc c.loop-attribute.text.items c.args.mark.now line)

pub returns : goal.returns
returns c =
    flat_all (λ a. c.args.mark.now ++ attribute_line a) _ _ c.args.attributes.now c.loop-attribute.attribute-index (omega arith) c.loop-attribute.invariant
