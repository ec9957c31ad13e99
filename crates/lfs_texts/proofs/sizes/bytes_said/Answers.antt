use Rattle.lfs_texts.proofs.SizeLemmas.{no_decimal_said, none_within, too_many_said}
use Rattle.lfs_texts.proofs.sizes.bytes_said.Goals as goal

pub returns-in-Ok-clause-none : goal.returns-in-Ok-clause-none
returns-in-Ok-clause-none c = λ none.
    too_many_said c.args.text.now c.split_unit-unit.result.0.now c.split_unit-unit.result.1 c.in-Ok.number c.in_default.ensures.cases
    c.split_unit-unit.ensures.unit c.in-Ok.ensures.value.0.1 (none_within _ _ c.checked_mul.result c.checked_mul.ensures none)

pub returns-in-Err-clause-none : goal.returns-in-Err-clause-none
returns-in-Err-clause-none c = λ none.
    no_decimal_said c.args.text.now c.split_unit-unit.result.0.now c.split_unit-unit.result.1 c.in-Err.field-0 c.in_default.ensures.cases
    c.split_unit-unit.ensures.unit c.in-Err.ensures.value.0
