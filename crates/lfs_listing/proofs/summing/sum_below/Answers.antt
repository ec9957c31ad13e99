use Rattle.std.proofs.Common.{arith}
use Rattle.std.specs.Prelude.{slice_index}
use Rattle.lfs_listing.specs.Summing.{IsNext}
use Rattle.lfs_listing.proofs.SummingLemmas.{deeper_more, passed_over, sum_fits}
use Rattle.lfs_listing.proofs.summing.sum_below.Goals as goal

pub overflow_add-total : goal.overflow_add-total
overflow_add-total c =
    let h = c.below.invariant in
    let next = c.requires.summed.behind c.below.next (omega (arith, h.later)) c.below-test.true in
    let over = passed_over c.args.depths.now c.args.counts.now (slice_index c.args.depths.now c.args.row) c.below.next
    (slice_index c.args.nexts.now c.below.next) c.below-test.true c.requires.counts c.if-depths-row.true next in
    let all = sum_fits c.args.depths.now c.args.counts.now c.args.row (omega (arith, c.requires.row, c.requires.counts)) in
    omega (arith, h.sum, over, c.requires.summed.are c.below.next (omega (arith, h.later)) c.below-test.true, all, c.requires.few)

pub below-preserved : goal.below-preserved
below-preserved c =
    let h = c.below.invariant in
    let next : IsNext c.args.depths.now c.below.next (slice_index c.args.nexts.now c.below.next) =
    c.requires.summed.behind c.below.next (omega (arith, h.later)) c.below-test.true in
    let over = passed_over c.args.depths.now c.args.counts.now (slice_index c.args.depths.now c.args.row) c.below.next
    (slice_index c.args.nexts.now c.below.next) c.below-test.true c.requires.counts c.if-depths-row.true next in
    record {
      later = omega (arith, h.later, next.later);
      within = next.within;
      deeper = deeper_more c.args.depths.now c.args.row c.below.next (slice_index c.args.nexts.now c.below.next) h.deeper
          c.if-depths-row.true next;
      sum = omega (arith, h.sum, over, c.requires.summed.are c.below.next (omega (arith, h.later)) c.below-test.true);
    }
