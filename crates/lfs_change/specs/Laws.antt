-- Laws of bytes on which steps are taken (own).
use Rattle.std.specs.Prelude.{◌≡◌, ◌≤◌, ◌+◌, ◌*◌, ℕ, List, [], ◌∷◌, length, take, drop, Option}
use Rattle.std.specs.Int.{w32, from_le_bytes}
use Rattle.lfs_fs.specs.Path.{Path}
use Rattle.lfs_fs.specs.Volume.{Volume}
use Rattle.lfs_fs.specs.Tree.{Node}
use Rattle.lfs_fs.specs.Reading.{reading_of}
use Rattle.lfs_fs.specs.Holds.{Holds}
use Rattle.lfs_fs.specs.Mounts.{Mounts}
use Rattle.lfs_journal.specs.Book.{journal_bytes, respelling}
use Rattle.lfs_command.specs.Command.{Asked, Command, Spells}
use Rattle.lfs_command.specs.Need.{need}
use Rattle.lfs_history.specs.History.{History}
use Rattle.lfs_history.specs.Opening.{kept_journal}
use Rattle.lfs_history.specs.Taking.{Move, Do, Undo}
use Rattle.lfs_history.specs.Laws.{IsCarriedOut}
use Rattle.lfs_request.specs.declared.outcome.Outcome.{Outcome}
use Rattle.lfs_block.specs.Disk.{image_of}
use Rattle.lfs_change.specs.Change.{Denotes, DenotesOn, IsChanged}

-- the image and the journal that steps leave denote the history that they leave
abbrev pub ChangedBytesAreDenoted : Type 0
ChangedBytesAreDenoted = (steps : List Move) (size : ℕ) (image journal : List ℕ) (outcome : Outcome)
    (changes : IsChanged steps (Denotes size image journal) outcome)
    → Denotes size outcome.image.items outcome.journal.items changes.new

-- Bytes that a command changed are an image that mounts to the command's equation of the tree of the image before, with the same
-- size and limits, and with as many blocks as the command leaves.
abbrev pub ChangedBytesAreEquations : Type 0
ChangedBytesAreEquations = (asked : Asked) (keep : Option ℕ) (size : ℕ) (image journal : List ℕ) (outcome : Outcome)
    (v : Volume) (t : Path → Option Node)
    → IsChanged (Do asked keep ∷ []) (Denotes size image journal) outcome → Holds (reading_of (image_of size image)) v
    → Mounts (image_of size image) t → IsCarriedOut asked (image_of size outcome.image.items) v t

-- what a command did is undone byte for byte, by the journal that it left, however much of the past it keeps
abbrev pub UndoneBytesStandAgain : Type 0
UndoneBytesStandAgain = (asked : Asked) (keep : Option ℕ) (size : ℕ) (image journal : List ℕ) (done undone : Outcome)
    → IsChanged (Do asked keep ∷ []) (Denotes size image journal) done
    → IsChanged (Undo 1 ∷ []) (Denotes size done.image.items done.journal.items) undone → undone.image.items ≡ image

-- the length of a journal; of one without bytes, that of a journal without changes
abbrev pub journal_length : List ℕ → ℕ
journal_length [] = 24
journal_length (byte ∷ bytes) = length (byte ∷ bytes)

-- the version of a journal, the second number of it
abbrev pub version_of : List ℕ → ℕ
version_of journal = from_le_bytes w32 (take 4 (drop 4 journal))

-- how many of its changes are done, the fifth
abbrev pub done_of : List ℕ → ℕ
done_of journal = from_le_bytes w32 (take 4 (drop 16 journal))

-- On the volume that the image holds the command needs some blocks, and the new journal is longer than the old one by no more than
-- three numbers and, for each of these blocks and two more, the block's number, its bytes before and its bytes after; than one of
-- version 1 also by two numbers for each change that is kept.
pub record GrowsByTheNeed (asked : Asked) (size : ℕ) (image journal : List ℕ) (outcome : Outcome) : Type 0 where
  pub volume : Volume
  pub holds : Holds (reading_of (image_of size image)) volume
  pub command : Command
  pub spells : Spells asked command
  pub grows : length outcome.journal.items ≤ journal_length journal + respelling (version_of journal) (done_of journal) + 12
      + (need volume command + 2) * (2 * size + 4)

-- the journal of bytes that a command changed grows by no more than the need
abbrev pub JournalsOfBytesGrowByTheNeed : Type 0
JournalsOfBytesGrowByTheNeed = (asked : Asked) (keep : Option ℕ) (size : ℕ) (image journal : List ℕ) (outcome : Outcome)
    → IsChanged (Do asked keep ∷ []) (Denotes size image journal) outcome → GrowsByTheNeed asked size image journal outcome

-- On the volume that the image holds the command needs some blocks, and the new journal is longer by no more than that even than the
-- journal that has nothing but those of the changes that are kept.
pub record GrowsOnTheKept (asked : Asked) (keep : Option ℕ) (size : ℕ) (image journal : List ℕ) (outcome : Outcome) : Type 0 where
  pub old : History
  pub denotes : DenotesOn (image_of size image) journal old
  pub volume : Volume
  pub holds : Holds (reading_of (image_of size image)) volume
  pub command : Command
  pub spells : Spells asked command
  pub grows : length outcome.journal.items ≤ length (journal_bytes (kept_journal keep old)) + 12
      + (need volume command + 2) * (2 * size + 4)

-- the journal of bytes that a command changed is bounded by what it keeps
abbrev pub JournalsOfBytesGrowOnTheKept : Type 0
JournalsOfBytesGrowOnTheKept = (asked : Asked) (keep : Option ℕ) (size : ℕ) (image journal : List ℕ) (outcome : Outcome)
    → IsChanged (Do asked keep ∷ []) (Denotes size image journal) outcome → GrowsOnTheKept asked keep size image journal outcome
