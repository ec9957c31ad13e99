-- The changes of a history are a journal.
use Rattle.lfs_history.proofs.BookLemmas.{history_is_book}
use Rattle.lfs_history.proofs.laws.histories_are_books.Goals as goal

pub returns : goal.returns
returns c = history_is_book
