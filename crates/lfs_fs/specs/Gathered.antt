-- What is gathered of an image before its tree is walked (own).
use Rattle.std.specs.Prelude.{ℕ, ◌≡◌, ◌≤◌, ◌<◌, All, length}
use Rattle.lfs_block.specs.Disk.{Disk}
use Rattle.lfs_fs.specs.declared.gathering.Gathered.{Gathered}
use Rattle.lfs_fs.specs.Directory.{entries, thread}
use Rattle.lfs_fs.specs.Volume.{Volume}
use Rattle.lfs_fs.specs.Uses.{uses}
use Rattle.lfs_fs.specs.Used.{Marks}
use Rattle.lfs_fs.specs.State.{delta_of}
use Rattle.lfs_fs.specs.Sound.{StartsAtRoot, Rise, IsProper, AreAttributes}
use Rattle.lfs_fs.specs.Outlined.{outlined}
use Rattle.lfs_fs.specs.Reading.{reading_of}
use Rattle.lfs_fs.specs.Holds.{Holds}

-- all that makes a volume sound but its names of directories, and that they are reached
pub record IsSoundUnwalked (v : Volume) : Type 0 where
  pub starts : StartsAtRoot v.directories
  pub order : All (λ d. Rise (entries d)) v.directories
  pub proper : All (λ d. All (IsProper v.limits) (entries d)) v.directories
  pub root_attributes : AreAttributes v.limits.attribute v.attributes
  pub once : (b : ℕ) → uses b v ≤ 1
  pub within : (b : ℕ) → 0 < uses b v → b < v.count
  pub settled : delta_of (thread v.directories) ≡ 0

-- of the volume that an image holds: its outline, and the blocks that it uses
pub record IsGathered (d : Disk) (g : Gathered) : Type 0 where
  pub volume : Volume
  pub holds : Holds (reading_of d) volume
  pub sound : IsSoundUnwalked volume
  pub outline : g.outline ≡ outlined volume
  pub len : length g.used.items ≡ d.count
  pub marks : Marks g.used.items (λ b. uses b volume)
