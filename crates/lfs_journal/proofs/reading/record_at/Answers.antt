-- A change that passes all tests is the one that is read.
use Rattle.std.proofs.Common.{sym, ◌∙◌, arith}
use Rattle.lfs_journal.proofs.Changes.{change_found}
use Rattle.lfs_journal.proofs.reading.record_at.Goals.{else-counts-number-via-then-counts-number+else-not-is_erased, else-counts-number-via-else-counts-number}
use Rattle.lfs_journal.proofs.reading.record_at.Goals as goal

pub returns-clause-given : goal.returns-clause-given
returns-clause-given c =
    change_found c.args.size c.args.counts.before c.args.counts.after c.args.least c.in_ok-number.number c.args.bytes.now
    c.in_ok-number.rest.now c.in_ok-old.old.now c.in_ok-old.rest.now c.in_ok-new.new.now c.in_ok-new.rest.now
    c.in_ok-old-2.old.items c.in_ok-new-2.new.items c.in_ok-number.ensures (omega arith) (omega arith) c.in_ok-old.ensures
    c.in_ok-new.ensures
    (λ behind. elim c.else-counts-number.branch [
      | else-counts-number-via-then-counts-number+else-not-is_erased w ↦ sym w.is_erased.ensures ∙ w.if-not-is_erased.false
      | else-counts-number-via-else-counts-number w ↦ absurd (omega (arith, behind))
    ])
    c.in_ok-old-2.ensures.items c.in_ok-new-2.ensures.items
