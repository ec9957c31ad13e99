use Rattle.lfs_journal.proofs.Books.{books_once}
use Rattle.lfs_journal.proofs.laws.books_are_read_once.Goals as goal

pub returns : goal.returns
returns c = books_once
