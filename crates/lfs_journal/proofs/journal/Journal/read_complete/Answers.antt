-- What was read is a book.
use Rattle.std.proofs.Common.{◌+◌, sym, ◌∙◌, arith}
use Rattle.lfs_journal.specs.HeadSeen.{head_seen}
use Rattle.lfs_journal.proofs.Patches.{patches_take, each_of}
use Rattle.lfs_journal.proofs.Heads.{head_takes}
use Rattle.lfs_journal.proofs.Books.{book_of-is, book_found}
use Rattle.lfs_journal.proofs.journal.Journal.read_complete.Goals as goal

pub invariant_of-result : goal.invariant_of-result
invariant_of-result c =
    let head = head_seen c.in_ok-head.head in
    let patches = c.in_ok-patches.patches.items in
    let first = head_takes c.args.bytes.now (head, c.in_ok-head.rest.now)
    (λ i. omega (arith, c.type_inv.bytes i)) c.in_ok-head.ensures.given in
    let second = patches_take head (head.done + head.undone) c.in_ok-head.rest.now
    (patches, c.in_ok-patches.rest.now) first.takes.rest_bytes first.is.geometry c.in_ok-patches.ensures in
    record {
      within = omega (arith, second.len);
      book = book_of-is head.size head.count head.done head.undone patches first.is.geometry (each_of head patches second.each) second.len
          first.is.few;
    }

pub returns : goal.returns
returns c =
    book_found c.args.bytes.now (head_seen c.in_ok-head.head) c.in_ok-head.rest.now c.in_ok-patches.patches.items c.in_ok-patches.rest.now
    c.in_ok-head.ensures.given c.in_ok-patches.ensures (sym c.is_empty.ensures ∙ c.if-not-is_empty.false)
