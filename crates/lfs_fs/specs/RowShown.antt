-- What rows show of an image's tree (own).
use Rattle.std.specs.Prelude.{◌≡◌, ◌<◌, ◌≤◌, Some, All, Contains, length}
use Rattle.lfs_block.specs.Disk.{Disk, IsDisk}
use Rattle.lfs_file.specs.Content.{content}
use Rattle.lfs_meta.specs.Attribute.{Attributes}
use Rattle.lfs_fs.specs.Entry.{Body, Inline, Chain, Directory_at, Entry}
use Rattle.lfs_fs.specs.Tree.{Node, File, Dir, tree}
use Rattle.lfs_fs.specs.Row.{Row}
use Rattle.lfs_fs.specs.Mounted.{MountedValue, IsMountOf}

-- what a body of an outline is on a disk, with attributes: the contents of a chain are read there by its blocks
abbrev pub shown_body : Disk → Body → Attributes → Node
shown_body d (Inline bytes) a = File bytes a
shown_body d (Chain blocks zeros) a = File (content d (length zeros) blocks) a
shown_body d (Directory_at pair) a = Dir a

-- what an entry of an outline is on a disk
abbrev pub shown_node : Disk → Entry → Node
shown_node d e = shown_body d e.body e.attributes

-- a body's blocks are the disk's, and no more than it has
abbrev pub HasBlocks : Disk → Body → Type 0
HasBlocks d (Inline bytes) = Unit {0}
HasBlocks d (Chain blocks zeros) = All (λ b. b < d.count) blocks × (length blocks ≤ d.count)
HasBlocks d (Directory_at pair) = Unit {0}

-- the law: the rows of a mounted image show what its tree has at their paths
abbrev pub RowsShowTheTree : Type 0
RowsShowTheTree = (d : Disk) (m : MountedValue) (is : IsMountOf d m) (r : Row) → IsDisk d → Contains m.rows r
    → (tree is.volume r.path ≡ Some (shown_node d r.entry)) × HasBlocks d r.entry.body
