use Rattle.std.proofs.Common.{take}
use Rattle.lfs_listing.specs.Summing.{AreCounts}
use Rattle.std.proofs.Common.{length}
use Rattle.lfs_listing.proofs.counting.count_each.Given as goal

-- the blocks so far are counted
abbrev pub invariant-each : goal.invariant-each
invariant-each l = AreCounts (take l.user-index l.users) (length l.fn.counts) l.counts
