use Rattle.lfs_meta.proofs.RunLemmas.{one_cut}
use Rattle.lfs_meta.proofs.runs.runs_are_the_only_ones.Goals as goal

pub returns : goal.returns
returns g c = one_cut
