-- An image that begins with some bytes, and has others after it (own).
use Rattle.std.specs.Prelude.{ℕ, ◌*◌, ◌/◌, ◌==◌, min, Bool, List, length, take, if◌then◌else◌}
use Rattle.lfs_lower.specs.Own.{IsOwnPart}
use Rattle.lfs_settle.specs.ReadAs.{IsReadAs}

-- as many bytes as fill whole blocks of a size, of which an image has 65,536 at most; all of them where a block has none
abbrev pub complete_blocks : ℕ → List ℕ → List ℕ
complete_blocks size bytes = if size == 0 then bytes else take (min (length bytes / size) 65536 * size) bytes

-- the image with which bytes begin: of as many whole blocks as are there, read in a manner, as many as its superblock states
abbrev pub IsImageWithin : Bool → ℕ → List ℕ → List ℕ → Type 0
IsImageWithin by_device size bytes image =
    (complete : List ℕ) × IsReadAs by_device size (complete_blocks size bytes) complete × IsOwnPart size complete image
