-- What the rows of a mounted image are packed as (own).
use Rattle.std.specs.Prelude.{ℕ, List, Option, Some, None, map}
use Rattle.lfs_block.specs.Disk.{Disk}
use Rattle.lfs_fs.specs.Row.{Row}
use Rattle.lfs_fs.specs.RowShown.{shown_node}
use Rattle.lfs_fs.specs.Tree.{Node, File, Dir}
use Rattle.lfs_pack.specs.Packed.{Packed}

-- a file's bytes; a directory has none
abbrev pub node_bytes : Node → Option (List ℕ)
node_bytes (File bytes attributes) = Some bytes
node_bytes (Dir attributes) = None

-- what a row is packed as: what it shows on the disk, at its path, with its attributes and this bound
abbrev pub packed_of : ℕ → Disk → Row → Packed
packed_of most d r = record { path = r.path; bytes = node_bytes (shown_node d r.entry); most = most; attributes = r.entry.attributes }

abbrev pub all_packed : ℕ → Disk → List Row → List Packed
all_packed most d rows = map (packed_of most d) rows
