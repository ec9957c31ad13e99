-- Each tag leaves fewer bytes.
use Rattle.std.proofs.Common.{length}
use Rattle.lfs_survey.proofs.may_be_empty.glance_at.Given as goal

abbrev pub decreases-loop-found : goal.decreases-loop-found
decreases-loop-found l = length l.rest
