use Rattle.lfs_law.proofs.TablesFollow.{tables_follow}
use Rattle.lfs_law.proofs.laws.tables_follow.Goals as goal

pub returns : goal.returns
returns c = tables_follow c.names_are_ordered.ensures c.entries_are_cut_greedily.ensures.joined
