use Rattle.std.proofs.lemmas.Result.{err_from_is_err_and}
use Rattle.lfs_draft.proofs.standing.attributes_at.Goals as goal

pub returns-in_err-entry-clause-there : goal.returns-in_err-entry-clause-there
returns-in_err-entry-clause-there c = rw (err_from_is_err_and c.from_residual.result c.from_residual.ensures.1).1 tt

pub returns-in_err-entry-clause-unrefused : goal.returns-in_err-entry-clause-unrefused
returns-in_err-entry-clause-unrefused c = rw (err_from_is_err_and c.from_residual.result c.from_residual.ensures.1).1 tt
