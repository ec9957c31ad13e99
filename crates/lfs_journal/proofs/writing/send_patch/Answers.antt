-- What stands before a change's blocks goes out, and then they.
use Rattle.std.proofs.Common.{rules, ◌≡◌, subst, ◌++◌, List, ℕ}
use Rattle.std.specs.List.{flat_map}
use Rattle.lfs_block.specs.Change.{Change}
use Rattle.lfs_sink.specs.Send.{Sends, SendsBeginning}
use Rattle.lfs_sink.proofs.SendLemmas.{sends_front, sends_then}
use Rattle.lfs_journal.specs.Book.{change_bytes}
use Rattle.lfs_journal.proofs.writing.send_patch.Goals as goal

pub returns-then-send-clause-sent : goal.returns-then-send-clause-sent
returns-then-send-clause-sent g c =
    let blocks = flat_map change_bytes c.args.patch.now.changes in
    let start = g.S.Sink.sent c.args.out.now in
    let end = g.S.Sink.sent c.send_records.new.out in
    let same : c.records.result.now ≡ c.args.patch.now.changes = search rules in
    subst (λ (front : List ℕ). Sends c.send_records.result start end (front ++ blocks)) c.patch_head.ensures
    (sends_then c.send_records.result start (g.S.Sink.sent c.send.new.out) end c.patch_head.result blocks c.if-send.ensures.sent
    (subst (λ (changes : List Change). Sends c.send_records.result (g.S.Sink.sent c.send.new.out) end (flat_map change_bytes changes)) same
    c.send_records.ensures.sent))

pub returns-else-send-clause-sent : goal.returns-else-send-clause-sent
returns-else-send-clause-sent g c =
    let blocks = flat_map change_bytes c.args.patch.now.changes in
    let start = g.S.Sink.sent c.args.out.now in
    let end = g.S.Sink.sent c.send.new.out in
    rw c.if-send.false
    (subst (λ (front : List ℕ). SendsBeginning start end (front ++ blocks)) c.patch_head.ensures
    (sends_front start end c.patch_head.result blocks c.if-send.ensures.sent))
