use Rattle.lfs_fs.proofs.PathOrderLemmas.{paths_are_ordered}
use Rattle.lfs_fs.proofs.laws.paths_are_ordered.Goals as goal

pub returns : goal.returns
returns c = paths_are_ordered
