use Rattle.std.proofs.lemmas.Result.{err_from_is_err_and}
use Rattle.lfs_cut.proofs.cutting.cut_parts.Goals as goal

pub returns-in_err-new : goal.returns-in_err-new
returns-in_err-new c = rw (err_from_is_err_and c.from_residual.result c.from_residual.ensures.1).1 tt

pub returns-in_err-push : goal.returns-in_err-push
returns-in_err-push c = rw (err_from_is_err_and c.from_residual-in_err-push.result c.from_residual-in_err-push.ensures.1).1 tt

pub returns-in_err-append : goal.returns-in_err-append
returns-in_err-append c = rw (err_from_is_err_and c.from_residual-in_err-append.result c.from_residual-in_err-append.ensures.1).1 tt
