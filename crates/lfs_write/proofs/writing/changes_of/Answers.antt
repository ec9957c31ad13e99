use Rattle.std.proofs.lemmas.Result.{err_from_is_err_and}
use Rattle.lfs_write.proofs.writing.changes_of.Goals as goal

pub returns-in_err-change_of : goal.returns-in_err-change_of
returns-in_err-change_of g c = rw (err_from_is_err_and c.from_residual.result c.from_residual.ensures.1).1 tt

pub returns-in_err-push : goal.returns-in_err-push
returns-in_err-push g c = rw (err_from_is_err_and c.from_residual-in_err-push.result c.from_residual-in_err-push.ensures.1).1 tt
