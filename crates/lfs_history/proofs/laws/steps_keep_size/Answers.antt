use Rattle.lfs_history.proofs.SizeLemmas.{taken_size}
use Rattle.lfs_history.proofs.laws.steps_keep_size.Goals as goal

pub returns : goal.returns
returns c = taken_size c.runs_keep_histories.ensures
