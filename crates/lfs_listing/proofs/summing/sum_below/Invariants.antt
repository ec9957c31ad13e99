use Rattle.std.proofs.Common.{◌≡◌, ◌+◌, ◌-◌, ◌<◌, ◌≤◌, drop, length}
use Rattle.std.specs.Prelude.{slice_index}
use Rattle.lfs_listing.specs.Summing.{AreDeeper, deeper_sum, depth_sum}
use Rattle.lfs_listing.proofs.summing.sum_below.Given as goal

-- with what is taken by the rows that are left, as far as they are below, the total is that of the row
abbrev pub invariant-below : goal.invariant-below
invariant-below l = record {
  later : l.row < l.next;
  within : l.next ≤ length l.depths;
  deeper : AreDeeper l.depths l.row l.next;
  sum : l.total + deeper_sum (slice_index l.depths l.row) (drop l.next l.depths) (drop l.next l.counts) ≡ depth_sum l.depths l.counts l.row;
}

abbrev pub decreases-below : goal.decreases-below
decreases-below l = length l.depths - l.next
