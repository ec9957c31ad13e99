use Rattle.std.proofs.lemmas.Result.{err_from_is_err_and}
use Rattle.lfs_pair.proofs.entries_between.push_delete.Goals as goal

pub returns-in_err-push-in-Goes-clause-pushed : goal.returns-in_err-push-in-Goes-clause-pushed
returns-in_err-push-in-Goes-clause-pushed c = rw (err_from_is_err_and c.from_residual.result c.from_residual.ensures.1).1 tt

pub returns-in_err-push-in-Goes-clause-small : goal.returns-in_err-push-in-Goes-clause-small
returns-in_err-push-in-Goes-clause-small c = rw (err_from_is_err_and c.from_residual.result c.from_residual.ensures.1).1 tt
