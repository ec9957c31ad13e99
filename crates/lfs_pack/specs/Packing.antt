-- A new image of rows, and why there is none (own).
use Rattle.std.specs.Prelude.{◌≡◌, ℕ, List, [], ◌∷◌, ◌++◌, Some}
use Rattle.lfs_block.specs.Disk.{IsDisk}
use Rattle.lfs_fs.specs.declared.limits.Limits.{Limits}
use Rattle.lfs_fs.specs.Formatted.{empty_volume}
use Rattle.lfs_fs.specs.Path.{Path}
use Rattle.lfs_fs.specs.Volume.{Volume}
use Rattle.lfs_fs.specs.Tree.{tree}
use Rattle.lfs_fs.specs.Sound.{IsSound}
use Rattle.lfs_fs.specs.Reading.{reading_of}
use Rattle.lfs_fs.specs.Holds.{Holds}
use Rattle.lfs_command.specs.declared.refusal.Refusal.{Refusal}
use Rattle.lfs_command.specs.declared.refusal.Refusal.TheVariants.{Memory}
use Rattle.lfs_command.specs.Command.{Command}
use Rattle.lfs_command.specs.Verdict.{verdict}
use Rattle.lfs_edit.specs.Formatted.{disk_with}
use Rattle.lfs_pack.specs.NewImages.{AllAreLaid, AreFilled}
use Rattle.lfs_pack.specs.Finished.{AreErasedBeside}
use Rattle.lfs_pack.specs.Packed.{Packed, commands, packed_at}
use Rattle.lfs_pack.specs.Lead.{Lead}
use Rattle.lfs_pack.specs.Stopped.{IsRowStopped}

-- The bytes are an image with these limits, whose tree is the map of the rows. The volume is the one that the commands of the rows lead to
-- from a new one: each of its parts stands alone in the first block of its pair, the contents of files stand in their blocks, after which
-- the last one of each file is erased, and all that the volume doesn't use is erased.
pub record IsPacked (size count : ℕ) (limits : Limits) (rows : List Packed) (bytes : List ℕ) : Type 0 where
  pub disk : IsDisk (disk_with size count bytes)
  pub volume : Volume
  pub holds : Holds (reading_of (disk_with size count bytes)) volume
  pub sound : IsSound volume
  pub limited : volume.limits ≡ limits
  pub led : Lead (commands rows) (empty_volume size count limits []) volume
  pub at : (p : Path) → tree volume p ≡ packed_at rows p
  pub filled : AreFilled (disk_with size count bytes) volume
  pub laid : AllAreLaid (disk_with size count bytes) volume
  pub erased : AreErasedBeside volume (disk_with size count bytes)

-- The next command of the rows is refused on a volume to which those before it lead from a new one.
pub record IsNotPacked (size count : ℕ) (limits : Limits) (rows : List Packed) (r : Refusal) : Type 0 where
  pub done : List Command
  pub next : Command
  pub later : List Command
  pub are : commands rows ≡ done ++ next ∷ later
  pub volume : Volume
  pub led : Lead done (empty_volume size count limits []) volume
  pub refused : verdict volume next ≡ Some r

-- why no image is made: the verdict of the next command, or want of memory
abbrev pub RefusesPack : ℕ → ℕ → Limits → List Packed → Refusal → Type 0
RefusesPack size count limits rows Memory = Unit {0}
RefusesPack size count limits rows r = IsNotPacked size count limits rows r

-- which row no image is made for: the one behind so many; of want of memory it isn't said
abbrev pub RefusesRow : ℕ → ℕ → Limits → List Packed → ℕ → Refusal → Type 0
RefusesRow size count limits rows at Memory = Unit {0}
RefusesRow size count limits rows at r = IsRowStopped rows (empty_volume size count limits []) at r
