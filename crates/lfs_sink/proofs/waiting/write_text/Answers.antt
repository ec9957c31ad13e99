-- What was sent is written, or waits, and what waits is written at the end.
use Rattle.std.proofs.Common.{◌≡◌, None, rules}
use Rattle.std.specs.Io.KnownBytes.{Keeps, append_known}
use Rattle.std.proofs.lemmas.Result.{on_ok_weaker}
use Rattle.lfs_sink.proofs.WaitingLemmas.{text_written}
use Rattle.lfs_sink.proofs.waiting.write_text.Goals as goal

pub returns : goal.returns
returns g c =
    let sink = c.send_to.new.out in
    let none : sink.said.now ≡ None = search rules in
    let kept : Keeps (append_known (g.W.Write.contents sink.writer.now) sink.waiting.now.items)
    (append_known (g.W.Write.contents c.write_rest.new.writer) c.write_rest.new.waiting.items) = search rules in
    record {
      written = on_ok_weaker c.write_rest.result
          (text_written c.send_to.result sink.said.now (g.W.Write.contents c.args.writer.now) (g.W.Write.contents sink.writer.now)
          (g.W.Write.contents c.write_rest.new.writer) c.new-waiting.result.items sink.waiting.now.items c.write_rest.new.waiting.items
          (g.T.Text.bytes c.args.text.now) c.new-waiting.ensures.items c.send_to.ensures.sent c.send_to.ensures.failed none kept)
          c.write_rest.ensures.empty;
    }
