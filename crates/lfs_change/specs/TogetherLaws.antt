-- Laws of bytes that several commands changed as one change (own).
use Rattle.std.specs.Prelude.{◌≡◌, ◌≤◌, ◌+◌, ◌*◌, ℕ, List, [], ◌∷◌, length, Option}
use Rattle.lfs_block.specs.Disk.{image_of}
use Rattle.lfs_block.specs.Patch.{ChangeSet}
use Rattle.lfs_journal.specs.Book.{respelling}
use Rattle.lfs_command.specs.Command.{Asked}
use Rattle.lfs_fs.specs.Holds.{Holds}
use Rattle.lfs_fs.specs.Mounts.{Mounts}
use Rattle.lfs_fs.specs.Path.{Path}
use Rattle.lfs_fs.specs.Reading.{reading_of}
use Rattle.lfs_fs.specs.Tree.{Node}
use Rattle.lfs_fs.specs.Volume.{Volume}
use Rattle.lfs_history.specs.Taking.{Together, Undo}
use Rattle.lfs_history.specs.Together.{AreCarriedOut, PlansAll, needs}
use Rattle.lfs_request.specs.declared.outcome.Outcome.{Outcome}
use Rattle.lfs_change.specs.Change.{Denotes, IsChanged}
use Rattle.lfs_change.specs.Laws.{done_of, journal_length, version_of}

-- bytes that commands changed together are an image that mounts to their equations of the tree of the image before, one after another
abbrev pub BytesAreChangedTogether : Type 0
BytesAreChangedTogether = (asked : List Asked) (keep : Option ℕ) (size : ℕ) (image journal : List ℕ) (outcome : Outcome)
    (v : Volume) (t : Path → Option Node)
    → IsChanged (Together asked keep ∷ []) (Denotes size image journal) outcome → Holds (reading_of (image_of size image)) v
    → Mounts (image_of size image) t → AreCarriedOut asked (image_of size outcome.image.items) v t

-- what some did together is undone by one undo, byte for byte, by the journal that they left
abbrev pub OneUndoTakesAllBack : Type 0
OneUndoTakesAllBack = (asked : Asked) (more : List Asked) (keep : Option ℕ) (size : ℕ) (image journal : List ℕ) (done undone : Outcome)
    → IsChanged (Together (asked ∷ more) keep ∷ []) (Denotes size image journal) done
    → IsChanged (Undo 1 ∷ []) (Denotes size done.image.items done.journal.items) undone → undone.image.items ≡ image

-- Each of the commands needs some blocks, on the image that those before it leave. The new journal is longer than the old one by no more
-- than three numbers and, for each of these blocks and two more a command, the block's number, its bytes before and its bytes after; than
-- one of version 1 also by two numbers for each change that is kept.
pub record GrowsByTheNeeds (asked : List Asked) (size : ℕ) (image journal : List ℕ) (outcome : Outcome) : Type 0 where
  pub changes : List ChangeSet
  pub plans : PlansAll (image_of size image) asked changes
  pub grows : length outcome.journal.items ≤ journal_length journal + respelling (version_of journal) (done_of journal) + 12
      + needs (image_of size image) asked changes plans * (2 * size + 4)

-- the journal of bytes that some changed together grows by no more than their needs
abbrev pub JournalsOfBytesGrowByTheNeeds : Type 0
JournalsOfBytesGrowByTheNeeds = (asked : Asked) (more : List Asked) (keep : Option ℕ) (size : ℕ) (image journal : List ℕ) (outcome : Outcome)
    → IsChanged (Together (asked ∷ more) keep ∷ []) (Denotes size image journal) outcome
    → GrowsByTheNeeds (asked ∷ more) size image journal outcome
