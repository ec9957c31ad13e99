-- One change more goes out, or a beginning of it.
use Rattle.std.proofs.Common.{◌∙◌}
use Rattle.lfs_journal.specs.Book.{patch_bytes}
use Rattle.lfs_journal.proofs.Sent.{sent_more, sent_partly}
use Rattle.lfs_journal.proofs.writing.send_patches.Goals as goal

pub returns-then-not-send_patch-clause-sent : goal.returns-then-not-send_patch-clause-sent
returns-then-not-send_patch-clause-sent g c =
    sent_partly patch_bytes (g.S.Sink.sent c.args.out.now) (g.S.Sink.sent c.loop-patch.out) (g.S.Sink.sent c.send_patch.new.out)
    c.args.patches.now c.loop-patch.patch-index c.patch-item.result c.loop-patch-test.true c.patch-item.is
    c.loop-patch.invariant.0 c.if-not-send_patch.ensures.sent

pub loop-patch-preserved : goal.loop-patch-preserved
loop-patch-preserved g c = (
  sent_more patch_bytes (g.S.Sink.sent c.args.out.now) (g.S.Sink.sent c.loop-patch.out) (g.S.Sink.sent c.send_patch.new.out)
      c.args.patches.now c.loop-patch.patch-index c.patch-item.result c.loop-patch-test.true c.patch-item.is
      c.loop-patch.invariant.0 c.if-not-send_patch.ensures.sent,
  c.if-not-send_patch.ensures.failed,
  c.if-not-send_patch.ensures.kept ∙ c.loop-patch.invariant.2,
)
