-- Laws of journals and of the histories that they denote (own).
use Rattle.std.specs.Prelude.{◌≡◌, ℕ, ◌+◌, ◌*◌, ◌≤◌, List, length, Option}
use Rattle.lfs_block.specs.Disk.{Disk}
use Rattle.lfs_block.specs.declared.mount_fault.MountFault.TheVariants.{Memory}
use Rattle.lfs_journal.specs.Book.{IsBook, bytes_in, journal_bytes, respelling}
use Rattle.lfs_command.specs.Command.{Asked}
use Rattle.lfs_command.specs.Need.{need}
use Rattle.lfs_history.specs.declared.open_fault.OpenFault.{OpenFault}
use Rattle.lfs_history.specs.declared.open_fault.OpenFault.TheVariants.{Mount}
use Rattle.lfs_history.specs.History.{History, IsHistory}
use Rattle.lfs_history.specs.Opening.{Opens, RefusesOpening, journal_of, kept_journal}
use Rattle.lfs_history.specs.Taking.{Does}

-- the changes of a history are a journal
abbrev pub HistoriesAreBooks : Type 0
HistoriesAreBooks = (h : History) → IsHistory h → IsBook (journal_of h)

-- bytes denote one history of an image at most
abbrev pub JournalsDenoteOneHistory : Type 0
JournalsDenoteOneHistory = (d : Disk) (bytes : List ℕ) (h k : History) → Opens d bytes h → Opens d bytes k → h ≡ k

-- the bytes of a history's journal denote it on its image
abbrev pub SavedHistoriesOpen : Type 0
SavedHistoriesOpen = (h : History) → IsHistory h → Opens h.present (journal_bytes (journal_of h)) h

-- and they are refused there for nothing but want of memory
abbrev pub SavedHistoriesAreTaken : Type 0
SavedHistoriesAreTaken = (h : History) (fault : OpenFault) → IsHistory h
    → RefusesOpening fault h.present (journal_bytes (journal_of h)) → fault ≡ Mount Memory

-- A command makes the journal longer by no more than three numbers and, for each block that it needs and two more, the block's
-- number, its bytes before and its bytes after; where it was spelled in version 1, also by two numbers for each change that is kept.
abbrev pub JournalsGrowByTheNeed : Type 0
JournalsGrowByTheNeed = (asked : Asked) (keep : Option ℕ) (old new : History) (version : ℕ) (does : Does asked keep old new)
    → length (journal_bytes (journal_of new)) ≤ length (bytes_in version (journal_of old)) + respelling version (length old.done) + 12
    + (need does.plans.volume does.plans.command + 2) * (2 * old.present.size + 4)

-- by no more than that even the journal that has nothing but the old changes that are kept
abbrev pub KeptJournalsGrowByTheNeed : Type 0
KeptJournalsGrowByTheNeed = (asked : Asked) (keep : Option ℕ) (old new : History) (version : ℕ) (does : Does asked keep old new)
    → length (journal_bytes (journal_of new)) ≤ length (bytes_in version (kept_journal keep old))
    + respelling version (length (kept_journal keep old).done) + 12
    + (need does.plans.volume does.plans.command + 2) * (2 * old.present.size + 4)
