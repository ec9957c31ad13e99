use Rattle.std.proofs.lemmas.Result.{err_from_is_err_and}
use Rattle.lfs_meta.proofs.part_draft.act.Goals as goal

pub returns-in_err-insert-in-Create : goal.returns-in_err-insert-in-Create
returns-in_err-insert-in-Create c = rw (err_from_is_err_and c.from_residual.result c.from_residual.ensures.1).1 tt

pub returns-in_err-set_name-in-SetName : goal.returns-in_err-set_name-in-SetName
returns-in_err-set_name-in-SetName c = rw (err_from_is_err_and c.from_residual-in_err-set_name-in-SetName.result c.from_residual-in_err-set_name-in-SetName.ensures.1).1 tt

pub returns-in_err-set_attribute_at-in-SetAttribute : goal.returns-in_err-set_attribute_at-in-SetAttribute
returns-in_err-set_attribute_at-in-SetAttribute c = rw (err_from_is_err_and c.from_residual-in_err-set_attribute_at-in-SetAttribute.result c.from_residual-in_err-set_attribute_at-in-SetAttribute.ensures.1).1 tt
