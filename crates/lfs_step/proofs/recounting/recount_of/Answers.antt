-- The text of a journal that is there, and of none.
use Rattle.lfs_change.proofs.ChangeLemmas.{some_bytes}
use Rattle.lfs_step.proofs.RecountingLemmas.{empty_told, log_told}
use Rattle.lfs_step.proofs.recounting.recount_of.Goals as goal

pub returns-then-not-is_empty-clause-text : goal.returns-then-not-is_empty-clause-text
returns-then-not-is_empty-clause-text c =
    let journal = c.args.journal.now in
    let some = some_bytes journal c.is_empty.result c.is_empty.ensures c.if-not-is_empty.true in
    log_told c.args.form c.args.image.now.disk journal c.log_of.result some c.log_of.ensures.text

pub returns-clause-text : goal.returns-clause-text
returns-clause-text c =
    empty_told c.args.form c.args.image.now.disk c.args.journal.now c.new.result.items c.in_ok-mount.field-0 c.is_empty.result c.is_empty.ensures
    c.if-not-is_empty.false c.new.ensures.items c.size-size.ensures.disk c.in_ok-mount.ensures.mounted
