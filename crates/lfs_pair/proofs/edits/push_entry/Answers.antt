use Rattle.std.proofs.lemmas.Result.{err_from_is_err_and}
use Rattle.lfs_pair.proofs.edits.push_entry.Goals as goal

pub returns-in_err-push-clause-pushed : goal.returns-in_err-push-clause-pushed
returns-in_err-push-clause-pushed c = rw (err_from_is_err_and c.from_residual.result c.from_residual.ensures.1).1 tt

pub returns-in_err-push-2-clause-pushed : goal.returns-in_err-push-2-clause-pushed
returns-in_err-push-2-clause-pushed c = rw (err_from_is_err_and c.from_residual-in_err-push-2.result c.from_residual-in_err-push-2.ensures.1).1 tt
