-- Each turn leaves fewer old attributes; once none is left, the new ones are added.
use Rattle.std.proofs.Common.{arith}
use Rattle.std.proofs.lemmas.Result.{on_ok_weaker}
use Rattle.lfs_tag.specs.Writing.{items}
use Rattle.lfs_pair.specs.Difference.{attributes_between}
use Rattle.lfs_pair.proofs.AttributesBetween.{none-left}
use Rattle.lfs_pair.proofs.TurnLemmas.{turned}
use Rattle.lfs_pair.proofs.attributes_between.push_attributes_between.Goals as goal

pub loop-attribute-preserved : goal.loop-attribute-preserved
loop-attribute-preserved c =
    turned (attributes_between c.args.forced c.args.id) c.args.old.now c.loop-attribute.attribute-index c.attribute-item.result
    c.loop-attribute.left.now c.in_ok-left.left.now (items c.loop-attribute.edits.items) (items c.push_next.new.edits.items) _
    c.loop-attribute-test.true c.attribute-item.is (c.in_ok-left.ensures _) c.loop-attribute.invariant

pub returns : goal.returns
returns c =
    on_ok_weaker c.push_attributes.result
    (none-left c.args.forced c.args.id c.args.old.now c.loop-attribute.attribute-index c.loop-attribute.left.now
    (items c.loop-attribute.edits.items) (items c.push_attributes.new.edits.items) _ (omega (arith, c.loop-attribute-test.false))
    c.loop-attribute.invariant) c.push_attributes.ensures
