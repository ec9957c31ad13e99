-- What a session keeps of its image, and with it (own).
use Rattle.std.specs.Prelude.{◌≡◌, ℕ, ◌≤◌, Bool, IsTrue, List, Option, Some, None}
use Rattle.std.specs.List.{AllByRecursion}
use Rattle.lfs_block.specs.Disk.{Disk}
use Rattle.lfs_block.specs.Medium.{Medium}
use Rattle.lfs_block.specs.Patch.{ChangeSet}
use Rattle.lfs_fs.specs.Mounted.{IsOutlineOf}
use Rattle.lfs_fs.specs.Table.{IsTableOf}
use Rattle.lfs_history.specs.History.{IsHistoryAt}
use Rattle.lfs_session.specs.declared.known.Known.{Known}

-- what is known is the outline of the image, and the table of the blocks that it uses
abbrev pub IsKnown : Disk → Option Known → Type 0
IsKnown d None = Unit {0}
IsKnown d (Some known) = IsOutlineOf d known.outline × IsTableOf known.outline known.used

-- there is room for the image after each change, and so for the one before it, since none cuts
abbrev pub HasRoom : ℕ → List ChangeSet → Type 0
HasRoom room changes = AllByRecursion (λ p. p.after ≤ room) changes

-- changes of images whose blocks have this size
abbrev pub HaveSize : ℕ → List ChangeSet → Type 0
HaveSize size changes = AllByRecursion (λ p. p.size ≡ size) changes

-- There is room for the image after each change, or memory was refused. The image stays, and its room never shrinks.
pub record ReservesFor (changes : List ChangeSet) (done : Bool) (old new : Medium) : Type 0 where
  pub disk : new.disk ≡ old.disk
  pub room : IsTrue done → HasRoom new.room changes

-- an image with one list of changes, of which so many were made, with room for each image of the history, and what is known of it
pub record IsSession (m : Medium) (found : Option Known) (changes : List ChangeSet) (done : ℕ) : Type 0 where
  pub at : IsHistoryAt m.disk changes done
  pub known : IsKnown m.disk found
  pub room : HasRoom m.room changes
