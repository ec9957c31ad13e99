-- The change of one block more goes out, or a beginning of it.
use Rattle.lfs_journal.specs.Book.{change_bytes}
use Rattle.lfs_journal.proofs.Sent.{sent_partly}
use Rattle.lfs_journal.proofs.writing.send_records.Goals as goal

pub returns-then-not-send_record-clause-sent : goal.returns-then-not-send_record-clause-sent
returns-then-not-send_record-clause-sent g c =
    sent_partly change_bytes (g.S.Sink.sent c.args.out.now) (g.S.Sink.sent c.loop-record.out) (g.S.Sink.sent c.send_record.new.out)
    c.args.records.now c.loop-record.record-index c.record-item.result c.loop-record-test.true c.record-item.is
    c.loop-record.invariant.0 c.if-not-send_record.ensures.sent
