-- Readings that agree where a volume is stored (own).
use Rattle.std.specs.Prelude.{ℕ, ◌≡◌, ◌≢◌, List, Some, All, map}
use Rattle.lfs_meta.specs.Attribute.{Attributes}
use Rattle.lfs_meta.specs.Body.{Pair, StoredBody, Chain as Stored_chain}
use Rattle.lfs_meta.specs.Part.{StoredPart}
use Rattle.lfs_fs.specs.Pair.{root}
use Rattle.lfs_fs.specs.Entry.{Body, Chain}
use Rattle.lfs_fs.specs.Directory.{Part, thread}
use Rattle.lfs_fs.specs.Volume.{Volume}
use Rattle.lfs_fs.specs.Thread.{Link}
use Rattle.lfs_fs.specs.Reading.{Reading}
use Rattle.lfs_fs.specs.Holds.{Holds}
use Rattle.lfs_fs.specs.Stored.{IsStored}

-- a skip list has the same chain, and its blocks the same content
abbrev pub ReadAlike : Reading → Reading → StoredBody → Type 0
ReadAlike r q (Stored_chain head size) = (q.chain head size ≡ r.chain head size)
    × ((blocks : List ℕ) → r.chain head size ≡ Some blocks → q.content size blocks ≡ r.content size blocks)
ReadAlike r q stored = Unit {0}

-- a pair holds the same part, whose skip lists are read alike
pub record SameAt (r q : Reading) (pair : Pair) : Type 0 where
  pub part : q.part pair ≡ r.part pair
  pub bodies : (s : StoredPart) → r.part pair ≡ Some s → All (λ e. ReadAlike r q e.body) s.entries

-- the law: the pairs of an image's thread are those of the volume's parts
abbrev pub PairsAreOfParts : Type 0
PairsAreOfParts = (r : Reading) (v : Volume) (holds : Holds r v) → holds.pairs ≡ map (λ p. p.pair) (thread v.directories)

-- the law: images that are the same at the pairs of a volume's parts hold the same volume
abbrev pub SameReadingsHoldTheSame : Type 0
SameReadingsHoldTheSame = (r q : Reading) (v : Volume) → q.size ≡ r.size → q.count ≡ r.count
    → All (SameAt r q) (map (λ p. p.pair) (thread v.directories))
    → Holds r v → Holds q v

-- the blocks of a chain are one still, with the same content
abbrev pub ChainStays : Reading → Reading → Body → Type 0
ChainStays r q (Chain blocks bytes) = (head size : ℕ) → r.chain head size ≡ Some blocks
    → (q.chain head size ≡ Some blocks) × (q.content size blocks ≡ r.content size blocks)
ChainStays r q body = Unit {0}

-- what a part's pair holds stays, and so do the chains of its files
pub record PartStays (r q : Reading) (p : Part) : Type 0 where
  pub part : q.part p.pair ≡ r.part p.pair
  pub chains : All (λ e. ChainStays r q e.body) p.entries

-- the law: a link whose part stays is still stored
abbrev pub StoredLinksStay : Type 0
StoredLinksStay = (r q : Reading) (bytes : List ℕ) (attributes : Attributes) (l : Link) → PartStays r q l.part
    → IsStored r bytes attributes l → IsStored q bytes attributes l

-- the law: the superblock doesn't matter to a link elsewhere than at the root's pair
abbrev pub SuperblockIsOfTheRoot : Type 0
SuperblockIsOfTheRoot = (r : Reading) (old_bytes new_bytes : List ℕ) (old_attributes new_attributes : Attributes) (l : Link)
    → l.part.pair ≢ root
    → IsStored r old_bytes old_attributes l → IsStored r new_bytes new_attributes l
