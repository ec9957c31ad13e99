use Rattle.lfs_step.proofs.RunsLeft.{runs_go_on}
use Rattle.lfs_step.proofs.laws.runs_go_on.Goals as goal

pub returns : goal.returns
returns c = runs_go_on c.steps_leave_histories.ensures
