-- An image as a list of bytes, and its blocks (littlefs disk version 2.0).
use Rattle.std.specs.Prelude.{◌≡◌, ℕ, ◌+◌, ◌-◌, ◌*◌, ◌/◌, List, ◌++◌, if◌then◌else◌, length, nat_lt, replicate, take, drop}
use Rattle.lfs_block.specs.Bytes.{IsBytes}
use Rattle.lfs_block.specs.Geometry.{IsGeometry}

-- an image of `count` blocks of `size` bytes
pub record Disk : Type 0 where
  pub size : ℕ
  pub count : ℕ
  pub bytes : List ℕ

pub record IsDisk (d : Disk) : Type 0 where
  pub geometry : IsGeometry d.size d.count
  pub len : length d.bytes ≡ d.count * d.size
  pub bytes : IsBytes d.bytes

-- the image that bytes are, cut into blocks of a size
abbrev pub image_of : ℕ → List ℕ → Disk
image_of size bytes = record { size = size; count = length bytes / size; bytes = bytes }

-- block n, the n-th slice of the bytes
abbrev pub block_of : Disk → ℕ → List ℕ
block_of d n = take d.size (drop (n * d.size) d.bytes)

-- a block of `size` bytes of which nothing was written
abbrev pub erased_block : ℕ → List ℕ
erased_block size = replicate size 0xff

-- block n of the disk that goes on behind its end with erased blocks
abbrev pub block_at : Disk → ℕ → List ℕ
block_at d n = if nat_lt n d.count then block_of d n else erased_block d.size

-- the disk with so many blocks: cut, or lengthened by erased ones
abbrev pub resized : ℕ → Disk → Disk
resized count d = record {
  size = d.size;
  count = count;
  bytes = take (count * d.size) d.bytes ++ replicate (count * d.size - length d.bytes) 0xff;
}

-- a list with other elements from a place on
abbrev pub put_at : ℕ → List ℕ → List ℕ → List ℕ
put_at at new bytes = take at bytes ++ new ++ drop (at + length new) bytes

-- the image with another block n
abbrev pub put : ℕ → List ℕ → Disk → Disk
put n new d = record { size = d.size; count = d.count; bytes = put_at (n * d.size) new d.bytes }
