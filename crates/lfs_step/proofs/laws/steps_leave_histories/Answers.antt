use Rattle.lfs_step.proofs.HistoriesLeft.{steps_leave_histories}
use Rattle.lfs_step.proofs.laws.steps_leave_histories.Goals as goal

pub returns : goal.returns
returns c = steps_leave_histories c.saved_histories_open.ensures.one c.saved_histories_open.ensures.opens c.changed_bytes_are_denoted.ensures
