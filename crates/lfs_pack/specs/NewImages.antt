-- What an image holds into which the outline of a volume is written (own).
use Rattle.std.specs.Prelude.{ℕ, ◌≡◌, Contains, map}
use Rattle.lfs_block.specs.Disk.{Disk, IsDisk, block_of}
use Rattle.lfs_command.specs.Clean.{IsClean}
use Rattle.lfs_command.specs.PartWritten.{FirstIsFilled}
use Rattle.lfs_fs.specs.Directory.{Part, thread}
use Rattle.lfs_file.specs.Laying.{laid}
use Rattle.lfs_fs.specs.Entry.{Body, Inline, Chain, Directory_at, Entry}
use Rattle.lfs_fs.specs.Holds.{Holds}
use Rattle.lfs_fs.specs.Outlined.{outlined}
use Rattle.lfs_fs.specs.Reading.{reading_of}
use Rattle.lfs_fs.specs.Sound.{IsSound}
use Rattle.lfs_fs.specs.Superblock.{IsLimits}
use Rattle.lfs_fs.specs.Thread.{Link, links}
use Rattle.lfs_fs.specs.Uses.{uses}
use Rattle.lfs_fs.specs.Volume.{Volume}
use Rattle.lfs_law.specs.OutlineLaws.{IsThere}
use Rattle.lfs_pack.specs.Filled.{TakesOutline}

-- Disk d has the chains of the files of a sound volume without marks, and e is d with the volume's outline written.
pub record TakesVolume (d e : Disk) (v : Volume) : Type 0 where
  pub disk : IsDisk d
  pub sound : IsSound v
  pub clean : IsClean v
  pub size : v.size ≡ d.size
  pub count : v.count ≡ d.count
  pub limits : IsLimits v.limits
  pub there : (l : Link) → Contains (links v.directories) l → (x : Entry) → Contains l.part.entries x → IsThere (reading_of d) x.body
  pub outline : TakesOutline d e (outlined v)

-- each part of a volume stands alone in the first block of its pair, beside an erased one
abbrev pub AreFilled : Disk → Volume → Type 0
AreFilled e v = (p : Part) → Contains (thread v.directories) p → FirstIsFilled e.size (block_of e p.pair.0) (block_of e p.pair.1)

-- the blocks of a file have what is laid in them for its bytes: all is erased after these
abbrev pub IsLaidBody : Disk → Body → Type 0
IsLaidBody d (Inline bytes) = Unit {0}
IsLaidBody d (Chain blocks bytes) = map (block_of d) blocks ≡ laid d.size bytes blocks
IsLaidBody d (Directory_at pair) = Unit {0}

-- so have those of all files of a volume
abbrev pub AllAreLaid : Disk → Volume → Type 0
AllAreLaid d v = (l : Link) → Contains (links v.directories) l → (x : Entry) → Contains l.part.entries x → IsLaidBody d x.body

-- Disk e holds a volume whose parts stand so; what is laid for its files in d still is; and all that the volume doesn't use is as in d.
pub record HoldsNew (d e : Disk) (v : Volume) : Type 0 where
  pub holds : Holds (reading_of e) v
  pub filled : AreFilled e v
  pub contents : AllAreLaid d v → AllAreLaid e v
  pub others : (b : ℕ) → uses b v ≡ 0 → block_of e b ≡ block_of d b

-- the law: so it is then
abbrev pub NewImagesHold : Type 0
NewImagesHold = (d e : Disk) (v : Volume) → TakesVolume d e v → HoldsNew d e v
