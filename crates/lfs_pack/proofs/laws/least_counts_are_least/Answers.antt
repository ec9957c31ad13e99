use Rattle.lfs_law.proofs.CarriedFollow.{carried_follow}
use Rattle.lfs_pack.proofs.LeastIsLeast.{least_counts_are_least}
use Rattle.lfs_pack.proofs.laws.least_counts_are_least.Goals as goal

pub returns : goal.returns
returns c =
    least_counts_are_least (carried_follow c.cuts_follow.ensures.cut c.cuts_follow.ensures.clean) c.paths_are_ordered.ensures
    c.free_after.ensures.uses
