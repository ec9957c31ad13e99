-- Laws of rows that are packed again (own).
use Rattle.std.specs.Prelude.{ℕ, ◌≡◌, List, map}
use Rattle.lfs_block.specs.Disk.{Disk, IsDisk}
use Rattle.lfs_fs.specs.Mounted.{MountedValue, IsMountOf}
use Rattle.lfs_fs.specs.Path.{Path}
use Rattle.lfs_fs.specs.Tree.{tree}
use Rattle.lfs_pack.specs.declared.pack_row.PackRow.{PackRow}
use Rattle.lfs_fs.specs.declared.limits.Limits.{Limits}
use Rattle.lfs_pack.specs.Packing.{IsPacked}
use Rattle.lfs_pack.specs.Packed.{ArePackable, AreRowsOf, Packed, packed_at}
use Rattle.lfs_pack.specs.Repacked.{all_packed}
use Rattle.lfs_pack.specs.RowText.{pack_text, packed_text}

-- the law: the map of what a mounted image's rows are packed as is its tree
abbrev pub RowsPackToTheirTree : Type 0
RowsPackToTheirTree = (most : ℕ) (d : Disk) (m : MountedValue) (is : IsMountOf d m) (p : Path) → IsDisk d
    → packed_at (all_packed most d m.rows) p ≡ tree is.volume p

-- the law: an image that is packed of them holds a volume of that tree
abbrev pub PackedImagesHoldTheTree : Type 0
PackedImagesHoldTheTree = (most : ℕ) (d : Disk) (m : MountedValue) (is : IsMountOf d m) (size count : ℕ) (limits : Limits) (bytes : List ℕ)
    (packed : IsPacked size count limits (all_packed most d m.rows) bytes) (p : Path) → IsDisk d → tree packed.volume p ≡ tree is.volume p

-- the law: they can be packed
abbrev pub RowsArePackable : Type 0
RowsArePackable = (most : ℕ) (d : Disk) (m : MountedValue) → IsMountOf d m → ArePackable (all_packed most d m.rows)

-- the law: rows that have the texts of what can be packed are rows of it
abbrev pub RowsAreOfTheirTexts : Type 0
RowsAreOfTheirTexts = (rows : List PackRow) (packed : List Packed) → map pack_text rows ≡ map packed_text packed → ArePackable packed
    → AreRowsOf rows packed
