use Rattle.lfs_fs.proofs.NameOrderLemmas.{names_are_ordered}
use Rattle.lfs_fs.proofs.laws.names_are_ordered.Goals as goal

pub returns : goal.returns
returns c = names_are_ordered
