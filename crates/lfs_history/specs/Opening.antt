-- Which journals are an image's, and what is opened of them (own).
use Rattle.std.specs.Prelude.{◌≡◌, ℕ, List, [], ◌++◌, reverse, Option, Contains}
use Rattle.lfs_block.specs.Disk.{Disk}
use Rattle.lfs_block.specs.declared.mount_fault.MountFault.{MountFault}
use Rattle.lfs_fs.specs.Cause.{HasCause, IsOfFormat}
use Rattle.lfs_journal.specs.Book.{Book, SpellsJournal}
use Rattle.lfs_history.specs.declared.open_fault.OpenFault.{OpenFault}
use Rattle.lfs_history.specs.declared.open_fault.OpenFault.TheVariants.{Mount, JournalFormat, JournalMismatch, JournalImage}
use Rattle.lfs_history.specs.History.{History, IsHistory, IsMounted, GoesBack, GoesForward, history, past_of, future_of}
use Rattle.lfs_history.specs.Moves.{kept_changes, but_one}

-- the journal of a history
abbrev pub journal_of : History → Book
journal_of h = record { size = h.present.size; count = h.present.count; done = h.done; undone = h.undone }

-- the same without the undone changes, and without those that are dropped once a command is done
abbrev pub kept_journal : Option ℕ → History → Book
kept_journal keep h = record {
  size = h.present.size;
  count = h.present.count;
  done = kept_changes (but_one keep) h.done;
  undone = [];
}

-- the journal denotes a history of the image: it is one of its size and count, and each change agrees with the image that it
-- leads back or on from
pub record HasHistory (d : Disk) (j : Book) : Type 0 where
  pub size : j.size ≡ d.size
  pub count : j.count ≡ d.count
  pub back : GoesBack (reverse j.done) d
  pub on : GoesForward j.undone d

-- the other images of that history
abbrev pub others : Disk → Book → List Disk
others d j = past_of (reverse j.done) d ++ future_of j.undone d

-- the history that the bytes denote on the image
pub record Opens (d : Disk) (bytes : List ℕ) (h : History) : Type 0 where
  pub book : Book
  pub spelled : SpellsJournal bytes book
  pub agrees : HasHistory d book
  pub is : h ≡ history d book.done book.undone
  pub history_is : IsHistory h

-- an image has a cause for which it isn't mounted
abbrev pub HasSomeCause : Disk → Type 0
HasSomeCause d = (fault : MountFault) × IsOfFormat fault × HasCause d fault

-- Why nothing is opened: the image has a cause; or it mounts, and then no journal is spelled so, or one is that denotes no history
-- of the image, or one that does, of which another image has a cause. Want of memory says nothing.
abbrev pub RefusesOpening : OpenFault → Disk → List ℕ → Type 0
RefusesOpening (Mount fault) d bytes = HasCause d fault
RefusesOpening JournalFormat d bytes = IsMounted d × ((j : Book) → SpellsJournal bytes j → ⊥)
RefusesOpening JournalMismatch d bytes = IsMounted d × (j : Book) × SpellsJournal bytes j × (HasHistory d j → ⊥)
RefusesOpening JournalImage d bytes = IsMounted d × (j : Book) × SpellsJournal bytes j × HasHistory d j
    × (e : Disk) × Contains (others d j) e × HasSomeCause e
