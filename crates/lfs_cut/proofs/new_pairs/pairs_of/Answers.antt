use Rattle.std.proofs.lemmas.Result.{err_from_is_err_and}
use Rattle.lfs_cut.proofs.new_pairs.pairs_of.Goals as goal

pub returns-in_err-pairs-clause-len : goal.returns-in_err-pairs-clause-len
returns-in_err-pairs-clause-len c = rw (err_from_is_err_and c.from_residual.result c.from_residual.ensures.1).1 tt

pub returns-in_err-pairs-clause-blocks : goal.returns-in_err-pairs-clause-blocks
returns-in_err-pairs-clause-blocks c = rw (err_from_is_err_and c.from_residual.result c.from_residual.ensures.1).1 tt

pub returns-in_err-push-clause-len : goal.returns-in_err-push-clause-len
returns-in_err-push-clause-len c = rw (err_from_is_err_and c.from_residual-in_err-push.result c.from_residual-in_err-push.ensures.1).1 tt

pub returns-in_err-push-clause-blocks : goal.returns-in_err-push-clause-blocks
returns-in_err-push-clause-blocks c = rw (err_from_is_err_and c.from_residual-in_err-push.result c.from_residual-in_err-push.ensures.1).1 tt
