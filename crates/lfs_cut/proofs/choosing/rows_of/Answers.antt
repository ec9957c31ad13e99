use Rattle.std.proofs.lemmas.Result.{err_from_is_err_and}
use Rattle.lfs_cut.proofs.choosing.rows_of.Goals as goal

pub returns-in_err-pairs_of : goal.returns-in_err-pairs_of
returns-in_err-pairs_of c = rw (err_from_is_err_and c.from_residual.result c.from_residual.ensures.1).1 tt
