-- What `mount` answers of an image (own).
use Rattle.std.specs.Prelude.{ℕ, ◌≡◌, List}
use Rattle.lfs_block.specs.Disk.{Disk}
use Rattle.lfs_fs.specs.Volume.{Volume}
use Rattle.lfs_fs.specs.Tree.{entry_at}
use Rattle.lfs_fs.specs.Free.{free_blocks}
use Rattle.lfs_fs.specs.Sound.{IsSound}
use Rattle.lfs_fs.specs.Outlined.{outlined}
use Rattle.lfs_fs.specs.Row.{Row, AreRows}
use Rattle.lfs_fs.specs.Reading.{reading_of}
use Rattle.lfs_fs.specs.Holds.{Holds}

-- its outline, the rows of that and its free blocks
pub record MountedValue : Type 0 where
  pub outline : Volume
  pub rows : List Row
  pub free : List ℕ

-- those of a sound volume that the image holds
pub record IsMountOf (d : Disk) (m : MountedValue) : Type 0 where
  pub volume : Volume
  pub holds : Holds (reading_of d) volume
  pub sound : IsSound volume
  pub outline : m.outline ≡ outlined volume
  pub rows : AreRows (entry_at m.outline) m.rows
  pub free : m.free ≡ free_blocks volume

-- the outline of a sound volume that the image holds
pub record IsOutlineOf (d : Disk) (o : Volume) : Type 0 where
  pub volume : Volume
  pub holds : Holds (reading_of d) volume
  pub sound : IsSound volume
  pub outline : o ≡ outlined volume

-- the law: of an image one answer is right
abbrev pub MountsAreOne : Type 0
MountsAreOne = (d : Disk) (m n : MountedValue) → IsMountOf d m → IsMountOf d n → m ≡ n
