-- What is listed of an image that was packed (own).
use Rattle.std.specs.Prelude.{◌≡◌, ℕ, List, [], Option, Some, None, map}
use Rattle.lfs_fs.specs.declared.limits.Limits.{Limits}
use Rattle.lfs_edit.specs.Formatted.{disk_with}
use Rattle.lfs_fs.specs.Entry.{Body, Inline, Directory_at}
use Rattle.lfs_fs.specs.Mounted.{MountedValue, IsMountOf}
use Rattle.lfs_fs.specs.Pair.{root}
use Rattle.lfs_fs.specs.Row.{Row}
use Rattle.lfs_listing.specs.Listing.{listing}
use Rattle.lfs_pack.specs.Packed.{ArePackable, Packed}
use Rattle.lfs_pack.specs.Packing.{IsPacked}

-- a body that is listed as what is packed: where its bytes, or its blocks, stand isn't said
abbrev pub listed_body : Option (List ℕ) → Body
listed_body None = Directory_at root
listed_body (Some bytes) = Inline bytes

-- a row that is listed as one that is packed: its entry's name isn't said, but its path
abbrev pub listed_row : Packed → Row
listed_row r = record { path = r.path; entry = record { name = []; body = listed_body r.bytes; attributes = r.attributes } }

-- the law: an image that was packed is listed as the rows that it was packed of
abbrev pub PackedImagesListTheirRows : Type 0
PackedImagesListTheirRows = (size count : ℕ) (limits : Limits) (rows : List Packed) (bytes : List ℕ) (m : MountedValue) → ArePackable rows
    → IsPacked size count limits rows bytes → IsMountOf (disk_with size count bytes) m → listing m.rows ≡ listing (map listed_row rows)
