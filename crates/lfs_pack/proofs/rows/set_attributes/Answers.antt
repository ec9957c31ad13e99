-- One attribute more is set behind those before it.
use Rattle.std.proofs.Common.{◌+◌, drop, map, arith}
use Rattle.std.proofs.lemmas.Result.{err_from_is_err_and}
use Rattle.lfs_pack.specs.Packed.{attribute_of}
use Rattle.lfs_pack.proofs.AttributesInTurn.{at_end, one_more, one_refused}
use Rattle.lfs_pack.proofs.ItemsInTurn.{map_all, map_one}
use Rattle.lfs_pack.proofs.rows.set_attributes.Goals as goal

pub returns-in_err-set_attribute-clause-refused : goal.returns-in_err-set_attribute-clause-refused
returns-in_err-set_attribute-clause-refused c =
    let attributes = c.args.attributes.now in
    let i = c.each.attribute-index in
    let x = c.attribute-item.result in
    let r = c.in_err-set_attribute.field-0.0 in
    let p = err_from_is_err_and c.from_residual.result c.from_residual.ensures.1 in
    rw (p.1, p.2) (one_refused c.args.text.now (map attribute_of attributes) (map attribute_of (drop i attributes))
    (map attribute_of (drop (i + 1) attributes)) (attribute_of x) c.args.new.now c.each.new r c.each.invariant
    (map_one attribute_of attributes i x c.each-test.true c.attribute-item.is)
    c.in_err-set_attribute.ensures.refused)

pub each-preserved : goal.each-preserved
each-preserved c =
    let attributes = c.args.attributes.now in
    let i = c.each.attribute-index in
    let x = c.attribute-item.result in
    one_more c.args.text.now (map attribute_of attributes) (map attribute_of (drop i attributes)) (map attribute_of (drop (i + 1) attributes))
    (attribute_of x) c.args.new.now c.each.new c.set_attribute.new.new c.each.invariant
    (map_one attribute_of attributes i x c.each-test.true c.attribute-item.is)
    c.in_ok-set_attribute.ensures.set c.in_ok-set_attribute.ensures.at_work

pub returns-clause-set : goal.returns-clause-set
returns-clause-set c =
    let attributes = c.args.attributes.now in
    at_end c.args.text.now (map attribute_of attributes) (map attribute_of (drop c.each.attribute-index attributes)) c.args.new.now c.each.new
    c.each.invariant (map_all attribute_of attributes c.each.attribute-index (omega (arith, c.each-test.false)))
