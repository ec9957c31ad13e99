-- An image whose root's first pair holds a superblock alone (own).
use Rattle.std.specs.Prelude.{ℕ, ◌≡◌, ◌-◌, List, [], ◌∷◌, Some, length, replicate}
use Rattle.std.specs.List.{range_with_len}
use Rattle.lfs_block.specs.Disk.{Disk, IsDisk}
use Rattle.lfs_meta.specs.declared.tail.Tail.TheVariants.{End}
use Rattle.lfs_meta.specs.Attribute.{Attributes}
use Rattle.lfs_meta.specs.LiveBlock.{stored_part_of}
use Rattle.lfs_meta.specs.Part.{StoredPart}
use Rattle.lfs_fs.specs.Header.{IsHeader}
use Rattle.lfs_fs.specs.Mounted.{MountedValue, IsMountOf}
use Rattle.lfs_fs.specs.Pair.{root}
use Rattle.lfs_fs.specs.Tree.{top}
use Rattle.lfs_fs.specs.Formatted.{empty_volume}
use Rattle.lfs_fs.specs.Volume.{Volume}
use Rattle.lfs_fs.specs.Sound.{AreAttributes}
use Rattle.lfs_fs.specs.Superblock.{header_of, superblock_entry}

-- a superblock with these bytes and attributes is the part's only entry, the thread ends, and nothing is unfinished
pub record IsLoneSuperblock (p : StoredPart) (bytes : List ℕ) (attributes : Attributes) : Type 0 where
  pub is : p.entries ≡ superblock_entry bytes attributes ∷ []
  pub len : length bytes ≡ 24
  pub tail : p.tail ≡ End
  pub delta : p.delta ≡ replicate 12 0

-- a volume of the root alone, as it is mounted: all blocks but the root's two are free
abbrev pub mounted_root : Volume → MountedValue
mounted_root v = record { outline = v; rows = record { path = []; entry = top v } ∷ []; free = range_with_len 2 (v.count - 2) }

-- the root alone, with the limits that the superblock's struct says
abbrev pub lone_root : ℕ → ℕ → List ℕ → Attributes → MountedValue
lone_root size count bytes attributes = mounted_root (empty_volume size count (header_of bytes []).limits attributes)

-- the law: it mounts to the root alone
abbrev pub LoneSuperblockMounts : Type 0
LoneSuperblockMounts = (d : Disk) (p : StoredPart) (bytes : List ℕ) (attributes : Attributes) → IsDisk d → stored_part_of d root ≡ Some p
    → IsLoneSuperblock p bytes attributes → IsHeader d.size d.count bytes
    → AreAttributes (header_of bytes []).limits.attribute attributes → IsMountOf d (lone_root d.size d.count bytes attributes)
