use Rattle.std.proofs.lemmas.Result.{err_from_is_err_and}
use Rattle.lfs_meta.proofs.attribute_copies.copied_attributes.Goals as goal

pub returns-in_err-copy-clause-same : goal.returns-in_err-copy-clause-same
returns-in_err-copy-clause-same c = rw (err_from_is_err_and c.from_residual.result c.from_residual.ensures.1).1 tt

pub returns-in_err-copy-clause-fit : goal.returns-in_err-copy-clause-fit
returns-in_err-copy-clause-fit c = rw (err_from_is_err_and c.from_residual.result c.from_residual.ensures.1).1 tt

pub returns-in_err-copied_attribute-clause-same : goal.returns-in_err-copied_attribute-clause-same
returns-in_err-copied_attribute-clause-same c =
    let on = c.from_residual-in_err-copied_attribute in
    rw (err_from_is_err_and on.result on.ensures.1).1 tt

pub returns-in_err-copied_attribute-clause-fit : goal.returns-in_err-copied_attribute-clause-fit
returns-in_err-copied_attribute-clause-fit c =
    let on = c.from_residual-in_err-copied_attribute in
    rw (err_from_is_err_and on.result on.ensures.1).1 tt

pub returns-in_err-push-clause-same : goal.returns-in_err-push-clause-same
returns-in_err-push-clause-same c = rw (err_from_is_err_and c.from_residual-in_err-push.result c.from_residual-in_err-push.ensures.1).1 tt

pub returns-in_err-push-clause-fit : goal.returns-in_err-push-clause-fit
returns-in_err-push-clause-fit c = rw (err_from_is_err_and c.from_residual-in_err-push.result c.from_residual-in_err-push.ensures.1).1 tt
