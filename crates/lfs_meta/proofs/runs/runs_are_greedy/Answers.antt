use Rattle.lfs_meta.proofs.RunLemmas.{runs_are_greedy}
use Rattle.lfs_meta.proofs.runs.runs_are_greedy.Goals as goal

pub returns : goal.returns
returns g c = runs_are_greedy
