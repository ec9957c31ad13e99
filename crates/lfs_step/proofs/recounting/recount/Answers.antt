-- A text that didn't go out as a whole is told as that.
use Rattle.lfs_step.proofs.RecountingLemmas.{recount_unsent}
use Rattle.lfs_step.proofs.recounting.recount.Goals as goal

pub returns-clause-refused : goal.returns-clause-refused
returns-clause-refused g c =
    recount_unsent c.args.form c.args.image.now.disk c.args.journal.now c.in_ok-text.text.items c.sent_complete.result c.send.result c.sent_complete.ensures
    c.in_ok-text.ensures.text
