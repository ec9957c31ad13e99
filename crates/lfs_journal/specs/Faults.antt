-- Why bytes are no journal (own).
use Rattle.std.specs.Prelude.{◌≡◌, ℕ, List, Option, Some, None, Result, Ok, Err}
use Rattle.lfs_journal.specs.declared.journal_fault.JournalFault.{JournalFault}
use Rattle.lfs_journal.specs.declared.journal_fault.JournalFault.TheVariants.{JournalFormat, Memory}
use Rattle.lfs_journal.specs.Book.{Book, SpellsJournal}

-- the numbers of the faults
abbrev pub journal_fault_number : JournalFault → ℕ
journal_fault_number JournalFormat = 50
journal_fault_number Memory = 44

-- no book is spelled so; that a growth of memory was refused says nothing of the bytes
abbrev pub IsNoJournal : JournalFault → List ℕ → Type 0
IsNoJournal JournalFormat bytes = (j : Book) → SpellsJournal bytes j → ⊥
IsNoJournal Memory bytes = Unit {0}

-- there is nothing to read, unless memory was refused
abbrev pub RefusesReading : {Y : Type 0} → JournalFault → Option Y → Type 0
RefusesReading JournalFormat read = read ≡ None
RefusesReading Memory read = Unit {0}

-- a reader's answer, seen by `view`, is what there is to read, unless memory was refused
abbrev pub Gives : {X Y : Type 0} → (X → Y) → Result X JournalFault → Option Y → Type 0
Gives view (Ok x) read = read ≡ Some (view x)
Gives view (Err fault) read = RefusesReading fault read
