use Rattle.std.proofs.lemmas.Result.{err_from_is_err_and}
use Rattle.lfs_survey.proofs.surveying_all.tails_of.Goals as goal

pub returns-in_err-push_tail : goal.returns-in_err-push_tail
returns-in_err-push_tail c = rw (err_from_is_err_and c.from_residual.result c.from_residual.ensures.1).1 tt
