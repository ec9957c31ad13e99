-- A new image (own).
use Rattle.std.specs.Prelude.{◌≡◌, ℕ, ◌-◌, ◌*◌, List, [], ◌∷◌, ◌++◌, replicate}
use Rattle.lfs_block.specs.Disk.{Disk, IsDisk}
use Rattle.lfs_meta.specs.declared.tail.Tail.TheVariants.{End}
use Rattle.lfs_meta.specs.Entry.{StoredEntry}
use Rattle.lfs_pair.specs.Spelling.{part_tags}
use Rattle.lfs_pair.specs.Writing.{log_written, stored_part}
use Rattle.lfs_fs.specs.declared.limits.Limits.{Limits}
use Rattle.lfs_fs.specs.Formatted.{empty_volume}
use Rattle.lfs_fs.specs.LoneSuperblock.{mounted_root}
use Rattle.lfs_fs.specs.Mounted.{IsMountOf}
use Rattle.lfs_fs.specs.Superblock.{superblock_entry}
use Rattle.lfs_law.specs.SuperblockBytes.{superblock_bytes}

-- the image of these bytes
abbrev pub disk_with : ℕ → ℕ → List ℕ → Disk
disk_with size count bytes = record { size = size; count = count; bytes = bytes }

-- the superblock of a new image, without attributes
abbrev pub new_superblock : ℕ → ℕ → Limits → StoredEntry
new_superblock size count limits = superblock_entry (superblock_bytes size count limits) []

-- the first block of a new image: revision 1, and one commit of the superblock
abbrev pub root_block : ℕ → ℕ → Limits → List ℕ
root_block size count limits =
    log_written 1 (part_tags (stored_part (new_superblock size count limits ∷ []) End (replicate 12 0))) (replicate size 0xff)

-- Bytes that are a new image with these limits: its first block, and behind it all erased. It mounts to the root alone, without attributes,
-- and all blocks but the root's two are free.
pub record IsFormatted (size count : ℕ) (limits : Limits) (bytes : List ℕ) : Type 0 where
  pub content : bytes ≡ root_block size count limits ++ replicate (size * count - size) 0xff
  pub disk : IsDisk (disk_with size count bytes)
  pub mount : IsMountOf (disk_with size count bytes) (mounted_root (empty_volume size count limits []))
