use Rattle.std.proofs.Common.{◌≤◌, length}
use Rattle.lfs_listing.specs.Summing.{AreSummed}
use Rattle.lfs_listing.proofs.summing.sum_each.Given as goal

-- the rows from here on are summed up
abbrev pub invariant-rows : goal.invariant-rows
invariant-rows l = record {
  within : l.row ≤ length l.depths;
  summed : AreSummed l.depths l.counts l.sums l.nexts l.row;
}

abbrev pub decreases-rows : goal.decreases-rows
decreases-rows l = l.row
