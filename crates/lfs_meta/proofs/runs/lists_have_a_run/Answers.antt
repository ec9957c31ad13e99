use Rattle.lfs_meta.proofs.RunLemmas.{some_run}
use Rattle.lfs_meta.proofs.runs.lists_have_a_run.Goals as goal

pub returns : goal.returns
returns g c = some_run
