-- A block's number, its bytes before and its bytes after go out one behind another.
use Rattle.std.proofs.Common.{rules, ◌≡◌, ◌++◌, subst, List, ℕ}
use Rattle.std.specs.Int.{w32, to_le_bytes}
use Rattle.lfs_sink.specs.Send.{Sends, SendsBeginning}
use Rattle.lfs_journal.proofs.Sent.{second_partly, third_sent}
use Rattle.lfs_journal.proofs.writing.send_record.Goals as goal

pub returns-then-not-send-2-clause-sent : goal.returns-then-not-send-2-clause-sent
returns-then-not-send-2-clause-sent g c =
    let change = c.args.change.now in
    let start = g.S.Sink.sent c.args.out.now in
    let end = g.S.Sink.sent c.send-2.new.out in
    let old : c.deref.result.now ≡ change.old = search rules in
    let number : c.to_le_bytes.result ≡ to_le_bytes w32 change.number = search rules in
    subst (λ (number : List ℕ). SendsBeginning start end (number ++ change.old ++ change.new)) number
    (subst (λ (old : List ℕ). SendsBeginning start end (c.to_le_bytes.result ++ old ++ change.new)) old
    (second_partly start (g.S.Sink.sent c.send.new.out) end c.to_le_bytes.result c.deref.result.now change.new c.if-not-send.ensures.sent
    c.if-not-send-2.ensures.sent))

pub returns-clause-sent : goal.returns-clause-sent
returns-clause-sent g c =
    let change = c.args.change.now in
    let start = g.S.Sink.sent c.args.out.now in
    let end = g.S.Sink.sent c.send-3.new.out in
    let old : c.deref.result.now ≡ change.old = search rules in
    let new : c.deref-2.result.now ≡ change.new = search rules in
    let number : c.to_le_bytes.result ≡ to_le_bytes w32 change.number = search rules in
    subst (λ (number : List ℕ). Sends c.send-3.result start end (number ++ change.old ++ change.new)) number
    (subst (λ (old : List ℕ). Sends c.send-3.result start end (c.to_le_bytes.result ++ old ++ change.new)) old
    (subst (λ (new : List ℕ). Sends c.send-3.result start end (c.to_le_bytes.result ++ c.deref.result.now ++ new)) new
    (third_sent c.send-3.result start (g.S.Sink.sent c.send.new.out) (g.S.Sink.sent c.send-2.new.out) end c.to_le_bytes.result
    c.deref.result.now c.deref-2.result.now c.if-not-send.ensures.sent c.if-not-send-2.ensures.sent c.send-3.ensures.sent)))
