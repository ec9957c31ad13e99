use Rattle.std.proofs.lemmas.Result.{err_from_is_err_and}
use Rattle.lfs_pair.proofs.aligning.push_coming.Goals as goal

pub returns-in_err-push : goal.returns-in_err-push
returns-in_err-push c = rw (err_from_is_err_and c.from_residual.result c.from_residual.ensures.1).1 tt
