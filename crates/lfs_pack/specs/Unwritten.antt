-- Images in which the contents of a volume's files stand, and not its parts yet (own).
use Rattle.std.specs.Prelude.{ℕ, ◌≡◌, ◌<◌, List, [], All, Contains, replicate}
use Rattle.lfs_block.specs.Disk.{Disk, IsDisk, block_of}
use Rattle.lfs_fs.specs.declared.limits.Limits.{Limits}
use Rattle.lfs_fs.specs.Directory.{thread}
use Rattle.lfs_fs.specs.DiskBut.{IsDiskBut}
use Rattle.lfs_fs.specs.Entry.{Entry}
use Rattle.lfs_fs.specs.Formatted.{empty_volume}
use Rattle.lfs_fs.specs.Outlined.{outlined}
use Rattle.lfs_fs.specs.Reading.{reading_of}
use Rattle.lfs_fs.specs.Superblock.{IsLimits}
use Rattle.lfs_fs.specs.Thread.{Link, links}
use Rattle.lfs_fs.specs.Uses.{times}
use Rattle.lfs_fs.specs.Volume.{Volume}
use Rattle.lfs_command.specs.Command.{Command, Mkdir, Put, SetAttr}
use Rattle.lfs_command.specs.Freed.{freed_uses}
use Rattle.lfs_command.specs.Planned.{CarriesOut, HasLaid}
use Rattle.lfs_law.specs.OutlineLaws.{IsThere}
use Rattle.lfs_law.specs.PlansHold.{content_blocks}
use Rattle.lfs_edit.specs.Carried.{IsHoldable, supplies_of}
use Rattle.lfs_pack.specs.Finished.{AreErasedBeside, IsNewImageOf}
use Rattle.lfs_pack.specs.Filled.{CanTakeOutline, TakesOutline}
use Rattle.lfs_pack.specs.NewImages.{AllAreLaid}
use Rattle.lfs_pack.specs.OutlinesTaken.{FitsNewPair}

-- a command that rows have: to make a directory, to put a file, or to set an attribute
abbrev pub IsOfRow : Command → Type 0
IsOfRow (Mkdir p) = Unit {0}
IsOfRow (Put p bytes most) = Unit {0}
IsOfRow (SetAttr p k value) = Unit {0}
IsOfRow _ = ⊥

-- the contents of all files of a volume are there
abbrev pub AreThere : Disk → Volume → Type 0
AreThere d v = (l : Link) → Contains (links v.directories) l → (x : Entry) → Contains l.part.entries x → IsThere (reading_of d) x.body

-- The contents of a volume's files are in an image, and each of its parts fits the first block of its pair, the second one of which is erased, as
-- is each block that the volume doesn't use: only its parts aren't written yet.
pub record IsReadyToWrite (d : Disk) (v : Volume) : Type 0 where
  pub disk : IsDisk d
  pub size : v.size ≡ d.size
  pub count : v.count ≡ d.count
  pub holdable : IsHoldable v
  pub fit : All (FitsNewPair d v) (thread v.directories)
  pub erased : AreErasedBeside v d
  pub there : AreThere d v
  pub laid : AllAreLaid d v

-- ---- how it begins, goes on and ends

-- an image of this geometry, each block of which is erased
pub record IsErasedImage (size count : ℕ) (d : Disk) : Type 0 where
  pub disk : IsDisk d
  pub size_is : d.size ≡ size
  pub count_is : d.count ≡ count
  pub erased : (b : ℕ) → b < d.count → block_of d b ≡ replicate d.size 0xff

-- the law: it is one of the root alone, with any limits that an image may have
abbrev pub ErasedAreUnwritten : Type 0
ErasedAreUnwritten = (size count : ℕ) (d : Disk) (limits : Limits) → IsErasedImage size count d → IsLimits limits
    → IsReadyToWrite d (empty_volume size count limits [])

-- A command takes the least free blocks. What it takes for a file's contents is laid in an image (`laid`), and then what it gives back is erased
-- (`e`).
pub record LaysAndErases (v w : Volume) (c : Command) (carries : CarriesOut c v w) (d laid e : Disk) : Type 0 where
  pub least : carries.supplies ≡ supplies_of v c
  pub others : IsDiskBut (content_blocks v c carries.supplies) d laid
  pub contents : HasLaid v c carries.supplies laid
  pub gone : List ℕ
  pub are : (b : ℕ) → times b gone ≡ freed_uses v c b
  pub left : IsDiskBut gone laid e
  pub erased : (b : ℕ) → 0 < times b gone → block_of e b ≡ replicate e.size 0xff

-- the law: then the image is one of what the command leaves
abbrev pub CommandsGoOn : Type 0
CommandsGoOn = (v w : Volume) (c : Command) (carries : CarriesOut c v w) (d laid e : Disk) → IsOfRow c → IsReadyToWrite d v
    → LaysAndErases v w c carries d laid e → IsReadyToWrite e w

-- Its outline can be written into the image, which then is its new image.
pub record CanBeFinished (d : Disk) (v : Volume) : Type 0 where
  pub can : CanTakeOutline d (outlined v)
  pub finished : (e : Disk) → TakesOutline d e (outlined v) → IsNewImageOf v e

-- the law: so it is
abbrev pub UnwrittenCanBeFinished : Type 0
UnwrittenCanBeFinished = (d : Disk) (v : Volume) → IsReadyToWrite d v → CanBeFinished d v
