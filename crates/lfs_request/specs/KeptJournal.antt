-- The bytes of a journal that is kept (own).
use Rattle.std.specs.Prelude.{ℕ, List}
use Rattle.lfs_journal.specs.Book.{journal_bytes}
use Rattle.lfs_request.specs.declared.kept_journal.JournalText.{JournalText}
use Rattle.lfs_request.specs.declared.kept_journal.JournalText.TheVariants.{Given, Spelled}

-- The meaning of a `KeptJournal`: its Model's Value. Its bytes.
pub record KeptBytes : Type 0 where
  pub items : List ℕ

-- those that were given, or those that spell a journal
abbrev pub kept_items : JournalText → List ℕ
kept_items (Given bytes) = bytes.items
kept_items (Spelled journal) = journal_bytes journal
