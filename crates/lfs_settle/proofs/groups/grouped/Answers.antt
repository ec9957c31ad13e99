-- One part more.
use Rattle.std.proofs.Common.{List, length, ap, ◌∙◌, arith}
use Rattle.std.specs.Vec.Iter.{into_iter_items}
use Rattle.lfs_fs.specs.Gathering.{PairPart}
use Rattle.lfs_settle.proofs.Groupings.{grouped_all, grouped_more}
use Rattle.lfs_settle.proofs.groups.grouped.Goals as goal

pub each-preserved : goal.each-preserved
each-preserved c = record {
  counted = omega (arith, ap (λ (x : List PairPart). length x) c.in-Some.ensures.steps.0, c.in-Some.ensures.steps.1);
  left = grouped_more _ _ _ _ _ c.in-Some.part (into_iter_items c.next.new.self) c.in_ok-put_part.ensures
      (rw c.in-Some.ensures.steps.0 at c.each.invariant.left);
}

pub returns : goal.returns
returns c =
    c.in_ok-put_last.ensures
    ∙ grouped_all _ _ _ (into_iter_items c.each.part-iterator) (omega (arith, c.each.invariant.counted, c.in-None.ensures.steps.0))
    c.each.invariant.left
