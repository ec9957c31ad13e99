use Rattle.lfs_meta.proofs.RunLemmas.{runs_behind_first}
use Rattle.lfs_meta.proofs.runs.runs_behind_first.Goals as goal

pub returns : goal.returns
returns g c = runs_behind_first
