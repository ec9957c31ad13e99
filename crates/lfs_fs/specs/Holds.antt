-- An image holds a volume: it is what is read along the thread (own).
use Rattle.std.specs.Prelude.{ℕ, ◌≡◌, ◌≢◌, List, Some, All, IsSome, Contains}
use Rattle.lfs_meta.specs.declared.kind.Kind.TheVariants.{Super}
use Rattle.lfs_meta.specs.Attribute.{Attributes}
use Rattle.lfs_meta.specs.Body.{Pair, Chain as Stored_chain}
use Rattle.lfs_meta.specs.Entry.{StoredEntry}
use Rattle.lfs_meta.specs.Part.{StoredPart}
use Rattle.lfs_fs.specs.Pair.{root}
use Rattle.lfs_fs.specs.Volume.{Volume}
use Rattle.lfs_fs.specs.Reading.{Reading}
use Rattle.lfs_fs.specs.Front.{IsThread}
use Rattle.lfs_fs.specs.Superblock.{HasSuperblock, IsLimits, header_of, word_at}
use Rattle.lfs_fs.specs.Held.{volume_at}

-- an entry of a file or a directory, whose chain exists
abbrev pub IsResolved : Reading → StoredEntry → Type 0
IsResolved r e = (e.kind ≢ Super) × ((head size : ℕ) → e.body ≡ Stored_chain head size → IsSome (r.chain head size))

-- with the version and the geometry that are edited, and limits within their ranges
pub record Holds (r : Reading) (v : Volume) : Type 0 where
  pub pairs : List Pair
  pub is_thread : IsThread r pairs
  pub bytes : List ℕ
  pub attributes : Attributes
  pub superblock : HasSuperblock r bytes attributes
  pub version : word_at bytes 0 ≡ 0x00020000
  pub size : word_at bytes 1 ≡ r.size
  pub count : word_at bytes 2 ≡ r.count
  pub limits : IsLimits (header_of bytes attributes).limits
  pub resolved : All (IsResolved r) superblock.others
  pub resolved_later : (p : Pair) (s : StoredPart) → Contains pairs p → p ≢ root → r.part p ≡ Some s → All (IsResolved r) s.entries
  pub is : v ≡ volume_at r (header_of bytes attributes) pairs

-- the law: an image holds one volume
abbrev pub VolumesAreOne : Type 0
VolumesAreOne = (r : Reading) (v w : Volume) → Holds r v → Holds r w → v ≡ w
