use Rattle.std.proofs.lemmas.Result.{err_from_is_err_and}
use Rattle.lfs_fs.proofs.keeping.kept_entry.Goals as goal

pub returns-in_err-body-clause-kept : goal.returns-in_err-body-clause-kept
returns-in_err-body-clause-kept g c = rw (err_from_is_err_and c.from_residual.result c.from_residual.ensures.1).1 tt
