-- The changes are a journal.
use Rattle.lfs_history.proofs.BookLemmas.{session_is_book}
use Rattle.lfs_session.proofs.session.Session.into_parts.Goals as goal

pub new-journal-requires : goal.new-journal-requires
new-journal-requires c =
    let s = c.self.inside in
    rw (c.size.ensures.value, c.count.ensures) (session_is_book s.image.disk s.patches.items s.done c.self.invariant.at)
