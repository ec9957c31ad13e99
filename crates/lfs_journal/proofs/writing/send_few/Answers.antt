-- What stands before the changes goes out, and then they.
use Rattle.std.proofs.Common.{◌≡◌, ◌-◌, ◌∙◌, ap, sym, subst, ◌++◌, List, ℕ, length, arith}
use Rattle.std.specs.List.{flat_map}
use Rattle.lfs_sink.specs.Send.{Sends, SendsBeginning}
use Rattle.lfs_sink.proofs.SendLemmas.{sends_front, sends_then}
use Rattle.lfs_journal.specs.Book.{book_of, journal_bytes, patch_bytes}
use Rattle.lfs_journal.proofs.Books.{book_of-spelled}
use Rattle.lfs_journal.proofs.writing.send_few.Goals as goal

pub returns-then-send-clause-sent : goal.returns-then-send-clause-sent
returns-then-send-clause-sent g c =
    let patches = c.args.patches.now in
    let texts = flat_map patch_bytes patches in
    let start = g.S.Sink.sent c.args.out.now in
    let end = g.S.Sink.sent c.send_patches.new.out in
    let complete : journal_bytes (book_of c.args.size c.args.count patches c.args.done) ≡ c.head.result ++ texts =
    book_of-spelled 2 c.args.size c.args.count c.args.done (length patches - c.args.done) patches (omega (arith, c.requires.book.within))
    ∙ ap (λ (front : List ℕ). front ++ texts) (sym c.head.ensures) in
    subst (Sends c.send_patches.result start end) (sym complete)
    (sends_then c.send_patches.result start (g.S.Sink.sent c.send.new.out) end c.head.result texts c.if-send.ensures.sent
    c.send_patches.ensures.sent)

pub returns-else-send-clause-sent : goal.returns-else-send-clause-sent
returns-else-send-clause-sent g c =
    let patches = c.args.patches.now in
    let texts = flat_map patch_bytes patches in
    let start = g.S.Sink.sent c.args.out.now in
    let end = g.S.Sink.sent c.send.new.out in
    let complete : journal_bytes (book_of c.args.size c.args.count patches c.args.done) ≡ c.head.result ++ texts =
    book_of-spelled 2 c.args.size c.args.count c.args.done (length patches - c.args.done) patches (omega (arith, c.requires.book.within))
    ∙ ap (λ (front : List ℕ). front ++ texts) (sym c.head.ensures) in
    rw c.if-send.false
    (subst (SendsBeginning start end) (sym complete) (sends_front start end c.head.result texts c.if-send.ensures.sent))
