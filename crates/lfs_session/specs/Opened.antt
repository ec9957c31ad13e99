-- What is opened of an image and the bytes of its journal (own).
use Rattle.std.specs.Prelude.{◌≡◌, ℕ, ◌≤◌, List, None, Contains, length}
use Rattle.lfs_block.specs.Disk.{Disk, IsDisk}
use Rattle.lfs_block.specs.Medium.{Medium}
use Rattle.lfs_block.specs.declared.mount_fault.MountFault.TheVariants.{Memory}
use Rattle.lfs_block.specs.Patch.{ChangeSet}
use Rattle.lfs_fs.specs.Mounted.{IsOutlineOf}
use Rattle.lfs_fs.specs.Volume.{Volume}
use Rattle.lfs_journal.specs.Book.{SpellsJournal, book_of}
use Rattle.lfs_history.specs.declared.open_fault.OpenFault.{OpenFault}
use Rattle.lfs_history.specs.declared.open_fault.OpenFault.TheVariants.{Mount, JournalImage}
use Rattle.lfs_history.specs.Opening.{HasHistory, HasSomeCause}
use Rattle.lfs_session.specs.Known.{IsSession}

-- why an image of a history isn't mounted
abbrev pub RefusesMount : OpenFault → Disk → Type 0
RefusesMount JournalImage e = HasSomeCause e
RefusesMount (Mount fault) e = fault ≡ Memory
RefusesMount _ e = ⊥

-- why not all of these images are mounted
abbrev pub RefusesMounts : OpenFault → List Disk → Type 0
RefusesMounts JournalImage es = (e : Disk) × Contains es e × HasSomeCause e
RefusesMounts (Mount fault) es = fault ≡ Memory
RefusesMounts _ es = ⊥

-- the bytes spell these changes, of which so many are done, and they denote a history of the image; whether its other images mount
-- isn't said
pub record DenotesChanges (d : Disk) (bytes : List ℕ) (patches : List ChangeSet) (done : ℕ) : Type 0 where
  pub disk : IsDisk d
  pub within : done ≤ length patches
  pub spelled : SpellsJournal bytes (book_of d.size d.count patches done)
  pub agrees : HasHistory d (book_of d.size d.count patches done)

-- what a session keeps of an image and the bytes of its journal
pub record OpensParts (m : Medium) (bytes : List ℕ) (o : Volume) (patches : List ChangeSet) (done : ℕ) : Type 0 where
  pub spelled : SpellsJournal bytes (book_of m.disk.size m.disk.count patches done)
  pub agrees : HasHistory m.disk (book_of m.disk.size m.disk.count patches done)
  pub outline : IsOutlineOf m.disk o
  pub session : IsSession m None patches done
