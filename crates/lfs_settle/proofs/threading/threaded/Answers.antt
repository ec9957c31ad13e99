-- One directory more.
use Rattle.std.proofs.Common.{◌<◌, List, length, add-one, ap, arith}
use Rattle.std.specs.Vec.Iter.{into_iter_items}
use Rattle.lfs_settle.proofs.DroppedGroups.{drop_all, drop_next}
use Rattle.lfs_settle.proofs.Threadings.{put_all_threaded, put_next}
use Rattle.lfs_settle.proofs.threading.threaded.Goals as goal

pub each-preserved : goal.each-preserved
each-preserved c =
    let len = ap (λ (xs : List _). length xs) c.in-Some.ensures.steps.0 in
    let within : c.each.number < length c.args.flags.now = omega (arith, len, c.each.invariant.numbered) in
    record {
      counted = omega (arith, len, c.each.invariant.counted, c.in-Some.ensures.steps.1);
      numbered = omega (arith, len, c.each.invariant.numbered);
      left = rw add-one (put_next c.args.flags.now c.each.number _ c.each.thread.items c.put_or_drop.new.thread.items
          c.in-Some.group.items _ within c.in_ok-put_or_drop.ensures.thread (rw c.in-Some.ensures.steps.0 at c.each.invariant.left));
      dropped = rw add-one (drop_next c.args.flags.now c.each.number _ c.each.dropped.items c.put_or_drop.new.dropped.items
          c.in-Some.group.items _ within c.in_ok-put_or_drop.ensures.dropped (rw c.in-Some.ensures.steps.0 at c.each.invariant.dropped));
    }

pub returns-clause-thread : goal.returns-clause-thread
returns-clause-thread c =
    put_all_threaded _ _ c.args.flags.now c.each.thread.items _ (into_iter_items c.each.group-iterator)
    (omega (arith, c.each.invariant.counted, c.in-None.ensures.steps.0)) c.each.invariant.left

pub returns-clause-dropped : goal.returns-clause-dropped
returns-clause-dropped c =
    drop_all _ _ _ c.each.dropped.items (into_iter_items c.each.group-iterator)
    (omega (arith, c.each.invariant.counted, c.in-None.ensures.steps.0)) c.each.invariant.dropped
