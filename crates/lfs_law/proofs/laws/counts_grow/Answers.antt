use Rattle.lfs_law.proofs.CountsGrow.{counts_grow}
use Rattle.lfs_law.proofs.laws.counts_grow.Goals as goal

pub returns : goal.returns
returns c = counts_grow
