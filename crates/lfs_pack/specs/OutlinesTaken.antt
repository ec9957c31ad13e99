-- Which outlines can be written into an image (own).
use Rattle.std.specs.Prelude.{ℕ, ◌≡◌, ◌≤◌, ◌+◌, All, if◌then◌else◌, length, replicate, sum_by}
use Rattle.lfs_block.specs.Disk.{Disk, IsDisk, block_of}
use Rattle.lfs_meta.specs.Runs.{most_entries}
use Rattle.lfs_fs.specs.Directory.{Part, thread}
use Rattle.lfs_fs.specs.Sound.{IsSound}
use Rattle.lfs_fs.specs.Volume.{Volume}
use Rattle.lfs_fs.specs.Weight.{superblock_weight, weight}
use Rattle.lfs_command.specs.Cut.{is_first, room}
use Rattle.lfs_pack.specs.Filled.{CanTakeOutline}

-- what the superblock weighs in front of a part's entries, where it stands there
abbrev pub front_weight : Volume → Part → ℕ
front_weight o p = if is_first p then superblock_weight o.attributes else 0

-- how many entries it is
abbrev pub front_count : Part → ℕ
front_count p = if is_first p then 1 else 0

-- A part fits the first block of its pair, the second one is erased, and the part has no share of the global state.
pub record FitsNewPair (d : Disk) (o : Volume) (p : Part) : Type 0 where
  pub few : front_count p + length p.entries ≤ most_entries
  pub light : front_weight o p + sum_by weight p.entries ≤ room o
  pub none : p.delta ≡ 0
  pub erased : block_of d p.pair.1 ≡ replicate d.size 0xff

-- the law: a sound outline each part of which fits so can be written
abbrev pub SoundOutlinesCanBeTaken : Type 0
SoundOutlinesCanBeTaken = (d : Disk) (o : Volume) → IsDisk d → IsSound o → o.size ≡ d.size → o.count ≡ d.count
    → All (FitsNewPair d o) (thread o.directories) → CanTakeOutline d o
