use Rattle.std.proofs.lemmas.Result.{err_from_is_err_and}
use Rattle.lfs_fs.proofs.waiting.Waiting.root.Goals as goal

pub returns-in_err-vec : goal.returns-in_err-vec
returns-in_err-vec c = rw (err_from_is_err_and c.from_residual.result c.from_residual.ensures.1).1 tt
