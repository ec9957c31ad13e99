use Rattle.std.proofs.lemmas.Result.{err_from_is_err_and}
use Rattle.lfs_meta.proofs.read.read_draft.Goals as goal

pub returns-in_err-log-clause-found : goal.returns-in_err-log-clause-found
returns-in_err-log-clause-found g c = rw (err_from_is_err_and c.from_residual.result c.from_residual.ensures.1).1 tt

pub returns-in_err-log-clause-fits : goal.returns-in_err-log-clause-fits
returns-in_err-log-clause-fits g c = rw (err_from_is_err_and c.from_residual.result c.from_residual.ensures.1).1 tt
