use Rattle.lfs_meta.proofs.RunLemmas.{runs_follow_weights}
use Rattle.lfs_meta.proofs.runs.runs_follow_weights.Goals as goal

pub returns : goal.returns
returns g c = runs_follow_weights
