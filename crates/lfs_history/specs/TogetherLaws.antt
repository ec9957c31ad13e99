-- Laws of several commands as one change (own).
use Rattle.std.specs.Prelude.{◌≡◌, ℕ, ◌+◌, ◌*◌, ◌≤◌, List, [], ◌∷◌, Option, None, length}
use Rattle.lfs_block.specs.Disk.{Disk, IsDisk}
use Rattle.lfs_block.specs.Patch.{ChangeSet, applied}
use Rattle.lfs_journal.specs.Joined.{applied_all}
use Rattle.lfs_journal.specs.JointLaws.{IsJoint}
use Rattle.lfs_fs.specs.Path.{Path}
use Rattle.lfs_fs.specs.Volume.{Volume}
use Rattle.lfs_fs.specs.Tree.{Node}
use Rattle.lfs_fs.specs.Reading.{reading_of}
use Rattle.lfs_fs.specs.Holds.{Holds}
use Rattle.lfs_fs.specs.Mounts.{Mounts}
use Rattle.lfs_journal.specs.Book.{bytes_in, journal_bytes, respelling}
use Rattle.lfs_command.specs.Command.{Asked}
use Rattle.lfs_history.specs.History.{History, IsHistory}
use Rattle.lfs_history.specs.Moves.{kept_changes, kept_images, but_one}
use Rattle.lfs_history.specs.Opening.{journal_of, kept_journal}
use Rattle.lfs_history.specs.Taking.{Does, Run, Together, Undo}
use Rattle.lfs_history.specs.Together.{AreCarriedOut, DoesSome, DoesTogether, PlansTogether, needs}

-- the one patch makes the image that the commands make one after another
abbrev pub TogetherIsOneByOne : Type 0
TogetherIsOneByOne = (d : Disk) (asked : List Asked) (r : ChangeSet) (plans : PlansTogether d asked r) → IsDisk d
    → IsJoint r d (applied_all (plans.first ∷ plans.later) d)

-- which mounts to what their equations make of the tree
abbrev pub TogetherAreEquations : Type 0
TogetherAreEquations = (d : Disk) (asked : List Asked) (r : ChangeSet) (v : Volume) (t : Path → Option Node) → PlansTogether d asked r
    → IsDisk d → Holds (reading_of d) v → Mounts d t → AreCarriedOut asked (applied r d) v t

-- the old present is the nearest image of the past, of which what is said is kept, there is no future, and the new present makes what
-- the commands' equations make
pub record PushesEquations (asked : List Asked) (keep : Option ℕ) (old new : History) (v : Volume) (t : Path → Option Node) : Type 0 where
  pub past : new.past ≡ kept_images keep (old.present ∷ old.past)
  pub future : new.future ≡ []
  pub present : AreCarriedOut asked new.present v t

-- commands that are carried out together put one image in front
abbrev pub TogetherPushEquations : Type 0
TogetherPushEquations = (asked : List Asked) (keep : Option ℕ) (old new : History) (v : Volume) (t : Path → Option Node)
    → DoesSome asked keep old new → IsHistory old → Holds (reading_of old.present) v → Mounts old.present t
    → PushesEquations asked keep old new v t

-- one command together is the command
abbrev pub OneIsDone : Type 0
OneIsDone = (a : Asked) (keep : Option ℕ) (old new : History) → DoesTogether (a ∷ []) keep old new → Does a keep old new

abbrev pub DoneIsOne : Type 0
DoneIsOne = (a : Asked) (keep : Option ℕ) (old new : History) → Does a keep old new → DoesTogether (a ∷ []) keep old new

-- what is done together and undone leaves the image, and of the images before it those that were kept beside it
abbrev pub TogetherIsUndone : Type 0
TogetherIsUndone = (a : Asked) (asked : List Asked) (keep : Option ℕ) (old new : History)
    → Run (Together (a ∷ asked) keep ∷ Undo 1 ∷ []) (None ∷ None ∷ []) old new
    → (new.present ≡ old.present) × (new.past ≡ kept_images (but_one keep) old.past)
    × (new.done ≡ kept_changes (but_one keep) old.done)

-- The journal grows by three numbers, and for each block that a command needs and two more each, by the block's number, its bytes
-- before and its bytes after; where it was spelled in version 1, also by two numbers for each change that is kept.
abbrev pub JournalsGrowByTheNeeds : Type 0
JournalsGrowByTheNeeds = (asked : List Asked) (keep : Option ℕ) (old new : History) (version : ℕ) (does : DoesSome asked keep old new)
    → IsHistory old
    → length (journal_bytes (journal_of new)) ≤ length (bytes_in version (journal_of old)) + respelling version (length old.done) + 12
    + needs old.present asked (does.plans.first ∷ does.plans.later) does.plans.plans * (2 * old.present.size + 4)

-- by no more than that even the journal that has nothing but the old changes that are kept
abbrev pub KeptJournalsGrowByTheNeeds : Type 0
KeptJournalsGrowByTheNeeds = (asked : List Asked) (keep : Option ℕ) (old new : History) (version : ℕ) (does : DoesSome asked keep old new)
    → IsHistory old
    → length (journal_bytes (journal_of new)) ≤ length (bytes_in version (kept_journal keep old))
    + respelling version (length (kept_journal keep old).done) + 12
    + needs old.present asked (does.plans.first ∷ does.plans.later) does.plans.plans * (2 * old.present.size + 4)
