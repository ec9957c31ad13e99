use Rattle.lfs_law.proofs.PairWalks.{walks_go_by_pairs, walks_are_refused_by_pairs}
use Rattle.lfs_law.proofs.walk_laws.walks_go_by_pairs.Goals as goal

pub returns-clause-walk : goal.returns-clause-walk
returns-clause-walk c = walks_go_by_pairs

pub returns-clause-refused : goal.returns-clause-refused
returns-clause-refused c = walks_are_refused_by_pairs
