-- Links of an outline written into the first blocks of their pairs, whose second blocks are erased (own).
use Rattle.std.specs.Prelude.{ℕ, ◌≡◌, ◌≤◌, List, Some, map, replicate, sum_by, Contains}
use Rattle.lfs_block.specs.Disk.{Disk, block_of}
use Rattle.lfs_meta.specs.Attribute.{Attributes}
use Rattle.lfs_meta.specs.LiveBlock.{stored_part_of}
use Rattle.lfs_fs.specs.Sound.{AreAttributes}
use Rattle.lfs_fs.specs.Thread.{Link, links}
use Rattle.lfs_fs.specs.Uses.{pair_uses}
use Rattle.lfs_fs.specs.Volume.{Volume}
use Rattle.lfs_command.specs.PartWritten.{FirstIsFilled}
use Rattle.lfs_law.specs.SuperblockBytes.{volume_bytes}
use Rattle.lfs_law.specs.WrittenLinks.{CanBeWritten, link_part}
use Rattle.lfs_fs.specs.DiskBut.{IsDiskBut}

-- the first blocks of the pairs of links
abbrev pub first_blocks : List Link → List ℕ
first_blocks ls = map (λ l. l.part.pair.0) ls

-- how often the pairs of links name a block
abbrev pub links_name : ℕ → List Link → ℕ
links_name n ls = sum_by (λ (l : Link). pair_uses n l.part) ls

-- ---- what can be written

-- A link can fill its pair: it may be written, it has no share of the global state, and the second block of the pair is erased.
pub record CanFillPair (d : Disk) (bytes : List ℕ) (attributes : Attributes) (l : Link) : Type 0 where
  pub may : CanBeWritten d bytes attributes l
  pub none : l.part.delta ≡ 0
  pub erased : block_of d l.part.pair.1 ≡ replicate d.size 0xff

-- links can fill their pairs, no two of which have a block in common
pub record CanFillPairs (d : Disk) (bytes : List ℕ) (attributes : Attributes) (ls : List Link) : Type 0 where
  pub once : (n : ℕ) → links_name n ls ≤ 1
  pub each : (l : Link) → Contains ls l → CanFillPair d bytes attributes l

-- an outline can be written into an image
pub record CanTakeOutline (d : Disk) (o : Volume) : Type 0 where
  pub rise : AreAttributes o.limits.attribute o.attributes
  pub pairs : CanFillPairs d (volume_bytes o) o.attributes (links o.directories)

-- ---- what is written

-- a link's pair holds it, alone in its first block, without a share of the global state
pub record FillsPair (e : Disk) (bytes : List ℕ) (attributes : Attributes) (l : Link) : Type 0 where
  pub none : l.part.delta ≡ 0
  pub part : stored_part_of e l.part.pair ≡ Some (link_part bytes attributes l (replicate 12 0))
  pub filled : FirstIsFilled e.size (block_of e l.part.pair.0) (block_of e l.part.pair.1)

-- disk e is d but for the first blocks of the links' pairs, and each of these pairs holds its link
pub record FillPairs (d e : Disk) (bytes : List ℕ) (attributes : Attributes) (ls : List Link) : Type 0 where
  pub but : IsDiskBut (first_blocks ls) d e
  pub each : (l : Link) → Contains ls l → FillsPair e bytes attributes l

-- the same of the links of an outline
abbrev pub TakesOutline : Disk → Disk → Volume → Type 0
TakesOutline d e o = FillPairs d e (volume_bytes o) o.attributes (links o.directories)
