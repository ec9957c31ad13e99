-- What is to be shown of the bytes that a command writes (own).
use Rattle.std.specs.Prelude.{ℕ, ◌<◌, ◌≡◌, true, false, List, Contains}
use Rattle.lfs_block.specs.Disk.{Disk, IsDisk, block_of}
use Rattle.lfs_fs.specs.Pair.{root}
use Rattle.lfs_fs.specs.Directory.{Part, thread}
use Rattle.lfs_fs.specs.Volume.{Volume}
use Rattle.lfs_fs.specs.Thread.{Link, links}
use Rattle.lfs_fs.specs.Uses.{pair_uses, uses}
use Rattle.lfs_fs.specs.Sound.{IsSound}
use Rattle.lfs_fs.specs.Reading.{Reading, reading_of}
use Rattle.lfs_fs.specs.Stored.{IsStored, SaysVolume, HoldsLinks}
use Rattle.lfs_command.specs.Clean.{cleaned, clean, IsClean}
use Rattle.lfs_command.specs.Kept.{KeepLinks}
use Rattle.lfs_law.specs.Lengthened.{HoldsParts}

-- a link whose part's mark is taken off
abbrev pub cleaned_link : Link → Link
cleaned_link l = record { part = cleaned l.part; tail = l.tail }

-- Disk d holds the parts of the volume v, and e is d with the parts written that are set in w: no block that v uses is written but
-- those of pairs of such parts, and each of them is what its pair then holds. The superblock has the bytes `old` before and `new`
-- then. They stay, and so do its attributes, unless the root's first part is set.
pub record Writes (d e : Disk) (v w : Volume) (old new : List ℕ) : Type 0 where
  pub old_disk : IsDisk d
  pub new_disk : IsDisk e
  pub size : e.size ≡ d.size
  pub count : e.count ≡ d.count
  pub stays : (b : ℕ) → 0 < uses b v → ((p : Part) → Contains (thread w.directories) p → p.dirty ≡ true → pair_uses b p ≡ 0)
      → block_of e b ≡ block_of d b
  pub written : (l : Link) → Contains (links w.directories) l → l.part.dirty ≡ true
      → IsStored (reading_of e) new w.attributes (cleaned_link l)
  pub superblock : (l : Link) → Contains (links w.directories) l → l.part.pair ≡ root → l.part.dirty ≡ false
      → (w.attributes ≡ v.attributes) × (new ≡ old)

-- w is a sound volume of the same size, count and limits, all of whose parts are set or were in v
pub record IsEditOf (v w : Volume) : Type 0 where
  pub old_sound : IsSound v
  pub new_sound : IsSound w
  pub kept : KeepLinks v.directories w.directories
  pub size : w.size ≡ v.size
  pub count : w.count ≡ v.count
  pub limits : w.limits ≡ v.limits

-- the law: then the new image holds the edited volume, where the new superblock says it
abbrev pub WrittenAreHeld : Type 0
WrittenAreHeld = (d e : Disk) (v w : Volume) (old new : List ℕ) → HoldsParts (reading_of d) v old → SaysVolume w new → IsEditOf v w
    → Writes d e v w old new → HoldsLinks (reading_of e) (clean w)

-- the law: a volume that an image holds has no marks
abbrev pub HeldAreClean : Type 0
HeldAreClean = (r : Reading) (v : Volume) → HoldsLinks r v → IsClean v
