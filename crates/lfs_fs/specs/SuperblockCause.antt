-- The causes that are read on the superblock (own).
use Rattle.std.specs.Prelude.{ℕ, ◌≡◌, ◌≢◌, ◌⊎◌, List, [], Some}
use Rattle.lfs_meta.specs.Attribute.{Attributes}
use Rattle.lfs_meta.specs.Part.{StoredPart}
use Rattle.lfs_fs.specs.Pair.{root}
use Rattle.lfs_fs.specs.Reading.{Reading}
use Rattle.lfs_fs.specs.Superblock.{HasSuperblock, IsLimits, header_of, word_at}

-- the root's first pair is read, and has none
pub record NoSuperblock (r : Reading) : Type 0 where
  pub part : StoredPart
  pub read : r.part root ≡ Some part
  pub none : (bytes : List ℕ) (attributes : Attributes) → HasSuperblock r bytes attributes → ⊥

-- there is one, whose bytes are of these
pub record SuperblockIs (r : Reading) (these : List ℕ → Type 0) : Type 0 where
  pub bytes : List ℕ
  pub attributes : Attributes
  pub superblock : HasSuperblock r bytes attributes
  pub is : these bytes

-- its version is not 2.0
abbrev pub WrongVersion : Reading → Type 0
WrongVersion r = SuperblockIs r (λ bytes. word_at bytes 0 ≢ 0x00020000)

-- its block size or its block count is not the image's
abbrev pub WrongGeometry : Reading → Type 0
WrongGeometry r = SuperblockIs r (λ bytes. (word_at bytes 1 ≢ r.size) ⊎ (word_at bytes 2 ≢ r.count))

-- one of its limits is out of range
abbrev pub WrongLimits : Reading → Type 0
WrongLimits r = SuperblockIs r (λ bytes. ¬ IsLimits (header_of bytes []).limits)
