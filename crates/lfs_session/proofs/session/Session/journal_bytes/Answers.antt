-- The changes are a journal.
use Rattle.std.proofs.Common.{◌≡◌, refl, ap, ◌∙◌}
use Rattle.std.proofs.lemmas.Option.{IfSome_then}
use Rattle.lfs_journal.specs.Book.{book_of, journal_bytes}
use Rattle.lfs_history.specs.Opening.{journal_of}
use Rattle.lfs_history.proofs.BookLemmas.{session_is_book}
use Rattle.lfs_session.proofs.session.Session.journal_bytes.Goals as goal

pub write_journal-requires : goal.write_journal-requires
write_journal-requires c =
    let s = c.self.inside in
    rw (c.size.ensures.value, c.count.ensures, c.deref.ensures.value) (session_is_book s.image.disk s.patches.items s.done c.self.invariant.at)

pub returns : goal.returns
returns c =
    let s = c.self.inside in
    let d = s.image.disk in
    let is : book_of c.size.result c.count.result c.deref.result.now s.done ≡ book_of d.size d.count s.patches.items s.done =
    rw (c.size.ensures.value, c.count.ensures, c.deref.ensures.value) refl in
    IfSome_then c.write_journal.result c.write_journal.ensures (λ bytes e. e ∙ ap journal_bytes (is ∙ ap journal_of c.self.view_is))
