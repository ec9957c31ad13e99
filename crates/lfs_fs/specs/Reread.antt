-- An image that differs in some blocks from one whose outline is known, read again (own).
use Rattle.std.specs.Prelude.{ℕ, ◌<◌, ◌≡◌, Bool, false, List, [], ◌∷◌, ◌++◌, Option, Some, All, length, slice_index_or, sum_by, bit_xor}
use Rattle.std.specs.List.{AllByRecursion}
use Rattle.lfs_block.specs.Disk.{Disk, IsDisk}
use Rattle.lfs_meta.specs.Attribute.{Attributes}
use Rattle.lfs_meta.specs.Body.{Pair}
use Rattle.lfs_meta.specs.Complete.{IsComplete}
use Rattle.lfs_fs.specs.declared.joined.Joined.{Joined}
use Rattle.lfs_fs.specs.declared.limits.Limits.{Limits}
use Rattle.lfs_fs.specs.Entry.{Body, Inline, Chain, Directory_at}
use Rattle.lfs_fs.specs.Directory.{Part}
use Rattle.lfs_fs.specs.Volume.{Volume}
use Rattle.lfs_fs.specs.DiskBut.{IsDiskBut}
use Rattle.lfs_fs.specs.Uses.{entry_uses}
use Rattle.lfs_fs.specs.Used.{MarksBeside}
use Rattle.lfs_fs.specs.Thread.{Link, is_hard, next}
use Rattle.lfs_fs.specs.Sound.{Rise, IsProper}
use Rattle.lfs_fs.specs.Reading.{Reading}
use Rattle.lfs_fs.specs.Superblock.{superblock_entry}
use Rattle.lfs_fs.specs.Stored.{IsStored}
use Rattle.lfs_fs.specs.Outlined.{outlined_part}
use Rattle.lfs_fs.specs.Judged.{SaysLimits}
use Rattle.lfs_fs.specs.Gathering.{Joins, KeepsNext, PairPart, part_entries}
use Rattle.lfs_fs.specs.ThreadRead.{IsRootTaken, IsThreadKept}
use Rattle.lfs_fs.specs.Mounted.{IsOutlineOf}

-- the outline is that of an image which this one is but for some blocks
pub record IsOutlineBut (changed : List ℕ) (e : Disk) (o : Volume) : Type 0 where
  pub before : Disk
  pub disk : IsDisk before
  pub outline : IsOutlineOf before o
  pub but : IsDiskBut changed before e

-- ---- parts that no changed block is of

-- a block that isn't flagged
abbrev pub IsLeft : List Bool → ℕ → Type 0
IsLeft flags b = (b < length flags) × (slice_index_or flags b false ≡ false)

-- a body none of whose blocks is
abbrev pub BodyIsLeft : List Bool → Body → Type 0
BodyIsLeft flags (Inline bytes) = Unit {0}
BodyIsLeft flags (Chain blocks bytes) = AllByRecursion (IsLeft flags) blocks
BodyIsLeft flags (Directory_at pair) = Unit {0}

-- a part neither of whose pair nor of whose files a block is
abbrev pub PartIsLeft : List Bool → Part → Type 0
PartIsLeft flags p = IsLeft flags p.pair.0 × IsLeft flags p.pair.1 × AllByRecursion (λ e. BodyIsLeft flags e.body) p.entries

-- ---- what is known of a thread

-- a part less the contents of chains, with the tail behind it
abbrev pub outlined_link : Link → Link
outlined_link l = record { part = outlined_part l.part; tail = l.tail }

-- a link of an outline is that of one which the image holds, with names that rise, within the limits
pub record IsKnownLink (r : Reading) (limits : Limits) (bytes : List ℕ) (attributes : Attributes) (k : Link) : Type 0 where
  pub link : Link
  pub is : k ≡ outlined_link link
  pub stored : IsStored r bytes attributes link
  pub rise : Rise link.part.entries
  pub proper : All (IsProper limits) link.part.entries

-- links of an outline, each of which the image holds where no flagged block is of its part, and what the superblock says then
pub record AreKnown (r : Reading) (limits : Limits) (attributes : Attributes) (flags : List Bool) (ks : List Link) : Type 0 where
  pub bytes : List ℕ
  pub judged : SaysLimits r.size r.count limits (superblock_entry bytes attributes)
  pub each : All (λ k. PartIsLeft flags k.part → IsKnownLink r limits bytes attributes k) ks

-- ---- the thread, part by part

-- a part is put as it is behind those so far, and the blocks of its files are marked
pub record TakesOver (used more : List Bool) (k : Link) (old new : Joined) : Type 0 where
  pub files : MarksBeside used more (λ b. sum_by (entry_uses b) k.part.entries)
  pub order : Rise (part_entries (old.parts.items ++ k.part ∷ []))
  pub joins : Joins (is_hard k.tail) k.part old new
  pub state : new.state ≡ bit_xor old.state k.part.delta

-- what a pair holds is kept behind the parts so far
pub record KeepsPair (r : Reading) (limits : Limits) (used more : List Bool) (pair : Pair) (behind : Option Pair) (old new : Joined) : Type 0 where
  pub part : PairPart
  pub at : part.0 ≡ pair
  pub read : r.part pair ≡ Some part.1
  pub complete : AllByRecursion IsComplete part.1.entries
  pub keeps : KeepsNext r limits used more part old new
  pub behind_is : behind ≡ next part.1.tail

-- nothing is kept yet
pub record IsNone (j : Joined) : Type 0 where
  pub directories : j.directories.items ≡ []
  pub parts : j.parts.items ≡ []
  pub state : j.state ≡ 0

-- the root's first part is kept, less a superblock with these attributes
pub record IsStarted (r : Reading) (limits : Limits) (attributes : Attributes) (used : List Bool) (joined : Joined) (behind : Option Pair)
    : Type 0 where
  pub part : PairPart
  pub marked : List Bool
  pub none : Joined
  pub root : IsRootTaken r limits part marked
  pub attributes_are : attributes ≡ root.superblock.attributes
  pub is_none : IsNone none
  pub keeps : KeepsNext r limits marked used part none joined
  pub behind_is : behind ≡ next part.1.tail

-- all parts of the thread are kept, from the root's on
pub record IsReread (r : Reading) (limits : Limits) (attributes : Attributes) (used : List Bool) (joined : Joined) : Type 0 where
  pub part : PairPart
  pub marked : List Bool
  pub root : IsRootTaken r limits part marked
  pub attributes_are : attributes ≡ root.superblock.attributes
  pub thread : IsThreadKept r limits part used joined
