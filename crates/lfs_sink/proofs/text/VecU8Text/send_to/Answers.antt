-- The list's own bytes are sent.
use Rattle.std.proofs.Common.{subst}
use Rattle.lfs_sink.specs.Send.{Sends}
use Rattle.lfs_sink.proofs.text.VecU8Text.send_to.Goals as goal

pub returns-clause-sent : goal.returns-clause-sent
returns-clause-sent g c =
    subst (Sends c.send.result (g.S.Sink.sent c.args.out.now) (g.S.Sink.sent c.send.new.out)) c.deref.ensures.value c.send.ensures.sent
