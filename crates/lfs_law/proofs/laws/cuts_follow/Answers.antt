use Rattle.lfs_law.proofs.CutsFollow.{cuts_follow}
use Rattle.lfs_law.proofs.Cleans.{cleans_follow}
use Rattle.lfs_law.proofs.laws.cuts_follow.Goals as goal

pub returns-clause-cut : goal.returns-clause-cut
returns-clause-cut c = cuts_follow c.names_are_ordered.ensures c.entries_are_cut_greedily.ensures.joined

pub returns-clause-clean : goal.returns-clause-clean
returns-clause-clean c = cleans_follow
