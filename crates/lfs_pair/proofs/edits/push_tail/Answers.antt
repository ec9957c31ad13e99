use Rattle.std.proofs.lemmas.Result.{err_from_is_err_and}
use Rattle.lfs_pair.proofs.edits.push_tail.Goals as goal

pub returns-in_err-push-in-Soft : goal.returns-in_err-push-in-Soft
returns-in_err-push-in-Soft c = rw (err_from_is_err_and c.from_residual.result c.from_residual.ensures.1).1 tt

pub returns-in_err-push-in-Hard : goal.returns-in_err-push-in-Hard
returns-in_err-push-in-Hard c = rw (err_from_is_err_and c.from_residual-in_err-push-in-Hard.result c.from_residual-in_err-push-in-Hard.ensures.1).1 tt
