-- One part more.
use Rattle.std.proofs.Common.{List, [], length, ap, arith}
use Rattle.std.specs.Vec.Iter.{into_iter_items}
use Rattle.lfs_fs.specs.Gathering.{PairPart}
use Rattle.lfs_adopt.proofs.Filled.{all_put, left_of, next_put}
use Rattle.lfs_adopt.proofs.tidied_parts.tidied_parts.Goals as goal

pub each-preserved : goal.each-preserved
each-preserved c = record {
  counted = omega (arith, ap (λ (x : List PairPart). length x) c.in-Some.ensures.steps.0, c.in-Some.ensures.steps.1);
  left = next_put (left_of [] c.args.parts.items) c.each.kept.items c.put_next.new.kept.items c.in-Some.part
      (into_iter_items c.next.new.self) c.in_ok-put_next.ensures (rw c.in-Some.ensures.steps.0 at c.each.invariant.left);
}

pub returns : goal.returns
returns c =
    all_put c.args.parts.items c.each.kept.items c.clear_unless.new.parts.items (into_iter_items c.each.part-iterator) c.len-count.result
    (omega (arith, c.each.invariant.counted, c.in-None.ensures.steps.0)) (omega (arith, c.len-count.ensures, c.args.parts.ok))
    c.clear_unless.ensures c.each.invariant.left
