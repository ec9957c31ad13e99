use Rattle.lfs_meta.proofs.RunLemmas.{runs_join}
use Rattle.lfs_meta.proofs.runs.runs_join.Goals as goal

pub returns : goal.returns
returns g c = runs_join
