-- The causes that are read on the parts of any front, and on the tail behind it (own).
use Rattle.std.specs.Prelude.{ℕ, ◌+◌, ◌<◌, ◌≤◌, ◌≡◌, ◌≢◌, ◌⊎◌, List, Some, None, Contains, length, option_to_list}
use Rattle.std.specs.List.{Any, slice_get}
use Rattle.lfs_block.specs.Disk.{Disk}
use Rattle.lfs_block.specs.declared.mount_fault.MountFault.{MountFault}
use Rattle.lfs_meta.specs.declared.kind.Kind.{Kind}
use Rattle.lfs_meta.specs.declared.kind.Kind.TheVariants.{File, Dir, Super}
use Rattle.lfs_meta.specs.Attribute.{Attributes}
use Rattle.lfs_meta.specs.Body.{Pair, StoredBody, Inline, Chain as Stored_chain, Directory_at as Stored_directory}
use Rattle.lfs_meta.specs.Entry.{StoredEntry}
use Rattle.lfs_meta.specs.Part.{StoredPart}
use Rattle.lfs_meta.specs.Cause.{PairCause}
use Rattle.lfs_fs.specs.Pair.{root}
use Rattle.lfs_fs.specs.declared.limits.Limits.{Limits}
use Rattle.lfs_fs.specs.Uses.{uses}
use Rattle.lfs_fs.specs.Named.{named}
use Rattle.lfs_fs.specs.EntryFault.{MisorderedNames}
use Rattle.lfs_fs.specs.Reading.{Reading, reading_of}
use Rattle.lfs_fs.specs.Front.{IsFront, next_after, pairs_name}
use Rattle.lfs_fs.specs.Superblock.{Header, HasSuperblock, header_of}
use Rattle.lfs_fs.specs.Held.{volume_at}

-- a pair of a front holds no part, for this cause
pub record Unread (d : Disk) (fault : MountFault) : Type 0 where
  pub front : List Pair
  pub is_front : IsFront (reading_of d) front
  pub pair : Pair
  pub there : Contains front pair
  pub cause : PairCause fault d pair

-- the pair behind a front has a block past the disk's
pub record TailRange (r : Reading) : Type 0 where
  pub front : List Pair
  pub is_front : IsFront r front
  pub pair : Pair
  pub follows : next_after r front ≡ Some pair
  pub past : (r.count ≤ pair.0) ⊎ (r.count ≤ pair.1)

-- entry k of a part of a front
pub record StoredOn (r : Reading) (e : StoredEntry) : Type 0 where
  pub front : List Pair
  pub is_front : IsFront r front
  pub pair : Pair
  pub there : Contains front pair
  pub part : StoredPart
  pub read : r.part pair ≡ Some part
  pub index : ℕ
  pub member : slice_get part.entries index ≡ Some e

-- a file's head and size have no chain
pub record NoChain (r : Reading) : Type 0 where
  pub entry : StoredEntry
  pub stored : StoredOn r entry
  pub head : ℕ
  pub size : ℕ
  pub is_chain : entry.body ≡ Stored_chain head size
  pub none : r.chain head size ≡ None

-- a directory's entry names a block past the disk's
pub record EntryRange (r : Reading) : Type 0 where
  pub entry : StoredEntry
  pub stored : StoredOn r entry
  pub pair : Pair
  pub leads : entry.body ≡ Stored_directory pair.0 pair.1
  pub past : (r.count ≤ pair.0) ⊎ (r.count ≤ pair.1)

-- two names of a directory don't rise; limits and attributes don't matter
pub record FrontOrder (r : Reading) : Type 0 where
  pub header : Header
  pub front : List Pair
  pub is_front : IsFront r front
  pub fault : MisorderedNames (volume_at r header front)

-- a block has two uses on a front and the pair behind it, or a directory two names; limits and attributes don't matter
pub record FrontTwice (r : Reading) : Type 0 where
  pub header : Header
  pub front : List Pair
  pub is_front : IsFront r front
  pub twice : ((b : ℕ) × (2 ≤ uses b (volume_at r header front) + pairs_name b (option_to_list (next_after r front))))
      ⊎ ((k : Pair) × (2 ≤ named k (volume_at r header front)))

-- an entry of superblock kind elsewhere than as entry 0 of the root's first pair
pub record SuperblockElsewhere (r : Reading) : Type 0 where
  pub entry : StoredEntry
  pub stored : StoredOn r entry
  pub kind : entry.kind ≡ Super
  pub elsewhere : (stored.pair ≢ root) ⊎ (0 < stored.index)

-- a file's size; others have none
abbrev pub stored_size : Kind → StoredBody → ℕ
stored_size File (Inline bytes) = length bytes
stored_size File (Stored_chain head size) = size
stored_size File (Stored_directory first second) = 0
stored_size Dir body = 0
stored_size Super body = 0

-- the length of a file's or a directory's name
abbrev pub stored_name_length : Kind → List ℕ → ℕ
stored_name_length File name = length name
stored_name_length Dir name = length name
stored_name_length Super name = 0

-- a name, a size or an attribute over its limit
abbrev pub IsOversized : Limits → StoredEntry → Type 0
IsOversized l e = (l.name < stored_name_length e.kind e.name) ⊎ (l.file < stored_size e.kind e.body)
    ⊎ Any (λ a. l.attribute < length a.1) e.attributes

-- an entry is over the superblock's limits
pub record EntryOversized (r : Reading) : Type 0 where
  pub bytes : List ℕ
  pub attributes : Attributes
  pub superblock : HasSuperblock r bytes attributes
  pub entry : StoredEntry
  pub stored : StoredOn r entry
  pub over : IsOversized (header_of bytes attributes).limits entry
