-- The contents of a row's file (own).
use Rattle.std.specs.Prelude.{ℕ, List, [], length}
use Rattle.lfs_block.specs.Disk.{Disk}
use Rattle.lfs_file.specs.Content.{content}
use Rattle.lfs_fs.specs.Entry.{Body, Inline, Chain, Directory_at}

-- the bytes that a row's file has on a disk; a directory has none
abbrev pub held_bytes : Disk → Body → List ℕ
held_bytes d (Inline bytes) = bytes
held_bytes d (Chain blocks zeros) = content d (length zeros) blocks
held_bytes d (Directory_at pair) = []
