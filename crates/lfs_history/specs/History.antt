-- An image between the images that were before it and those that were taken back (own).
use Rattle.std.specs.Prelude.{◌≡◌, ℕ, ◌≤◌, List, [], ◌∷◌, ◌++◌, length, reverse, take, drop}
use Rattle.std.specs.List.{AllByRecursion}
use Rattle.lfs_block.specs.Disk.{Disk, IsDisk}
use Rattle.lfs_block.specs.Patch.{ChangeSet, IsGrowth, AgreesOld, AgreesNew, applied, reverted}
use Rattle.lfs_journal.specs.Book.{most_changes}
use Rattle.lfs_fs.specs.Volume.{Volume}
use Rattle.lfs_fs.specs.Sound.{IsSound}
use Rattle.lfs_fs.specs.Reading.{reading_of}
use Rattle.lfs_fs.specs.Holds.{Holds}

-- the images before changes that were made, nearest first; the latest change comes first
abbrev pub past_of : List ChangeSet → Disk → List Disk
past_of [] d = []
past_of (p ∷ ps) d = reverted p d ∷ past_of ps (reverted p d)

-- the images after changes that are still to be made, nearest first; the next change comes first
abbrev pub future_of : List ChangeSet → Disk → List Disk
future_of [] d = []
future_of (p ∷ ps) d = applied p d ∷ future_of ps (applied p d)

-- each change can be taken back from the image that it made
abbrev pub GoesBack : List ChangeSet → Disk → Type 0
GoesBack [] d = Unit {0}
GoesBack (p ∷ ps) d = IsGrowth p × AgreesNew p d × GoesBack ps (reverted p d)

-- each change can be made in the image that comes before it
abbrev pub GoesForward : List ChangeSet → Disk → Type 0
GoesForward [] d = Unit {0}
GoesForward (p ∷ ps) d = IsGrowth p × AgreesOld p d × GoesForward ps (applied p d)

-- The meaning of a `Session`: its Model's Value. The images are nearest first on both sides. The changes are in the order in
-- which they were made (`done`) and in which they are made again (`undone`).
pub record History : Type 0 where
  pub past : List Disk
  pub present : Disk
  pub future : List Disk
  pub done : List ChangeSet
  pub undone : List ChangeSet

-- the history of an image with these changes
abbrev pub history : Disk → List ChangeSet → List ChangeSet → History
history d done undone = record {
  past = past_of (reverse done) d;
  present = d;
  future = future_of undone d;
  done = done;
  undone = undone;
}

-- the history of an image that nothing was done to
abbrev pub fresh_history : Disk → History
fresh_history d = history d [] []

-- the image holds a sound volume
abbrev pub IsMounted : Disk → Type 0
IsMounted d = (v : Volume) × Holds (reading_of d) v × IsSound v

-- the images are those of the changes, each of them mounts, and there are not too many changes
pub record IsHistory (h : History) : Type 0 where
  pub past : h.past ≡ past_of (reverse h.done) h.present
  pub future : h.future ≡ future_of h.undone h.present
  pub back : GoesBack (reverse h.done) h.present
  pub on : GoesForward h.undone h.present
  pub disk : IsDisk h.present
  pub mounts : IsMounted h.present
  pub past_mounts : AllByRecursion IsMounted h.past
  pub future_mounts : AllByRecursion IsMounted h.future
  pub few : length (h.done ++ h.undone) ≤ most_changes

-- the history of an image with one list of changes, of which so many were made
abbrev pub history_at : Disk → List ChangeSet → ℕ → History
history_at d changes done = history d (take done changes) (drop done changes)

-- and it is one
pub record IsHistoryAt (d : Disk) (changes : List ChangeSet) (done : ℕ) : Type 0 where
  pub within : done ≤ length changes
  pub history : IsHistory (history_at d changes done)
