-- Laws of journals (own).
use Rattle.std.specs.Prelude.{◌≡◌, ℕ, ◌≤◌, List, length}
use Rattle.lfs_journal.specs.Book.{Book, SpellsJournal, most_journal}

-- two books that the same bytes spell are one
abbrev pub BooksAreReadOnce : Type 0
BooksAreReadOnce = (bytes : List ℕ) (i j : Book) → SpellsJournal bytes i → SpellsJournal bytes j → i ≡ j

-- no bytes that spell a journal are more
abbrev pub JournalsAreShort : Type 0
JournalsAreShort = (bytes : List ℕ) (j : Book) → SpellsJournal bytes j → length bytes ≤ most_journal
