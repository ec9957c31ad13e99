-- What is gathered of parts that are read, one after another, and why parts are refused (own).
use Rattle.std.specs.Prelude.{ℕ, ◌+◌, ◌≤◌, ◌≡◌, ◌⊎◌, Bool, true, false, List, [], ◌∷◌, ◌++◌, length, map, flat_map, sum_by, All, Some, None}
use Rattle.std.specs.Prelude.{bit_xor}
use Rattle.std.specs.List.{Any}
use Rattle.lfs_block.specs.declared.mount_fault.MountFault.{MountFault}
use Rattle.lfs_block.specs.declared.mount_fault.MountFault.TheVariants.{BadSkipList, OrderFault, BlockRange, BlockTwice, Orphan}
use Rattle.lfs_block.specs.declared.mount_fault.MountFault.TheVariants.{UnfinishedMove, SuperblockElsewhere, BadSize, UnknownState, Memory}
use Rattle.lfs_meta.specs.declared.kind.Kind.TheVariants.{Super}
use Rattle.lfs_meta.specs.Name.{Name}
use Rattle.lfs_meta.specs.Body.{Pair, StoredBody, Inline as Stored_inline, Chain as Stored_chain, Directory_at as Stored_directory}
use Rattle.lfs_meta.specs.Entry.{StoredEntry}
use Rattle.lfs_meta.specs.Part.{StoredPart}
use Rattle.lfs_fs.specs.declared.joined.Joined.{Joined}
use Rattle.lfs_fs.specs.declared.limits.Limits.{Limits}
use Rattle.lfs_fs.specs.NameOrder.{precedes}
use Rattle.lfs_fs.specs.Entry.{Body, Entry, body_length}
use Rattle.lfs_fs.specs.Directory.{Part, Directory, entries}
use Rattle.lfs_fs.specs.Uses.{body_uses, entry_uses}
use Rattle.lfs_fs.specs.Used.{Marks, marked}
use Rattle.lfs_fs.specs.State.{little_endian, IsUnfinishedMove, SaysOrphans, IsUnknownState}
use Rattle.lfs_fs.specs.Thread.{Link, is_hard, pieces}
use Rattle.lfs_fs.specs.Sound.{Rise, IsProper, AreAttributes}
use Rattle.lfs_fs.specs.Reading.{Reading}
use Rattle.lfs_fs.specs.Held.{resolved_body, resolved, link_of}
use Rattle.lfs_fs.specs.Holds.{IsResolved}
use Rattle.lfs_fs.specs.FrontCause.{IsOversized}
use Rattle.lfs_fs.specs.Outlined.{outlined_body, outlined_entry, outlined_part, outlined_directories}

-- a pair with the part that it holds
abbrev pub PairPart : Type 0
PairPart = Pair × StoredPart

-- ---- the global state

-- the exclusive or of the deltas of parts
abbrev pub delta_from : List PairPart → ℕ
delta_from [] = 0
delta_from (p ∷ ps) = bit_xor (little_endian p.1.delta) (delta_from ps)

-- why a state is refused
abbrev pub StateCause : MountFault → ℕ → Type 0
StateCause UnfinishedMove state = IsUnfinishedMove state
StateCause Orphan state = SaysOrphans state
StateCause UnknownState state = IsUnknownState state
StateCause _ state = ⊥

-- ---- names in order

-- two neighbours don't rise
pub record NamesFall (es : List Entry) : Type 0 where
  pub before : List Entry
  pub left : Entry
  pub right : Entry
  pub after : List Entry
  pub neighbours : es ≡ before ++ left ∷ right ∷ after
  pub fall : precedes left.name right.name ≡ false

-- the last of entries
abbrev pub EndsWith : List Entry → Entry → Type 0
EndsWith es last = (before : List Entry) × (es ≡ before ++ last ∷ [])

-- the last entry doesn't come before a name
pub record EndsAtOrAfter (es : List Entry) (name : Name) : Type 0 where
  pub before : List Entry
  pub last : Entry
  pub is : es ≡ before ++ last ∷ []
  pub fall : precedes last.name name ≡ false

-- ---- one body

-- a file's head and size have no chain
abbrev pub HasNoChain : Reading → StoredBody → Type 0
HasNoChain r (Stored_chain head size) = r.chain head size ≡ None
HasNoChain r body = ⊥

-- a directory's first pair is past the disk's blocks
abbrev pub LeadsPast : Reading → StoredBody → Type 0
LeadsPast r (Stored_directory first second) = (r.count ≤ first) ⊎ (r.count ≤ second)
LeadsPast r body = ⊥

-- the size that a stored body says; a directory has none
abbrev pub stored_length : StoredBody → ℕ
stored_length (Stored_inline bytes) = length bytes
stored_length (Stored_chain head size) = size
stored_length (Stored_directory first second) = 0

-- a stored body is kept as this, and its blocks are marked
pub record KeepsBody (r : Reading) (old new : List Bool) (stored : StoredBody) (kept : Body) : Type 0 where
  pub is : kept ≡ outlined_body (resolved_body r stored)
  pub len : length new ≡ length old
  pub marks : Marks new (λ b. marked old b + body_uses b (resolved_body r stored))
  pub chain : HasNoChain r stored → ⊥
  pub size : body_length (resolved_body r stored) ≡ stored_length stored

-- why it isn't
abbrev pub BodyCause : MountFault → Reading → List Bool → StoredBody → Type 0
BodyCause BadSkipList r used body = HasNoChain r body
BodyCause BlockRange r used body = LeadsPast r body
BodyCause BlockTwice r used body = (b : ℕ) × (2 ≤ marked used b + body_uses b (resolved_body r body))
BodyCause Memory r used body = Unit {0}
BodyCause _ r used body = ⊥

-- ---- one entry

-- what is wrong with an entry by itself
abbrev pub EntryFault : MountFault → Reading → Limits → StoredEntry → Type 0
EntryFault BadSkipList r limits e = HasNoChain r e.body
EntryFault BlockRange r limits e = LeadsPast r e.body
EntryFault SuperblockElsewhere r limits e = e.kind ≡ Super
EntryFault BadSize r limits e = IsOversized limits e
EntryFault _ r limits e = ⊥

-- a name, a size and attributes within the limits
pub record IsWithin (limits : Limits) (e : StoredEntry) : Type 0 where
  pub name : length e.name ≤ limits.name
  pub size : stored_length e.body ≤ limits.file
  pub attributes : AreAttributes limits.attribute e.attributes

-- how often stored entries use a block
abbrev pub stored_uses : Reading → ℕ → List StoredEntry → ℕ
stored_uses r b es = sum_by (entry_uses b) (flat_map (resolved r) es)

-- a stored entry, which isn't a superblock, is kept as this, and its blocks are marked
pub record KeepsEntry (r : Reading) (limits : Limits) (old new : List Bool) (e : StoredEntry) (kept : Entry) : Type 0 where
  pub is : map outlined_entry (resolved r e) ≡ kept ∷ []
  pub len : length new ≡ length old
  pub marks : Marks new (λ b. marked old b + stored_uses r b (e ∷ []))
  pub resolved_one : IsResolved r e
  pub proper : All (IsProper limits) (resolved r e)

-- why an entry isn't kept
abbrev pub EntryCause : MountFault → Reading → Limits → List Bool → StoredEntry → Type 0
EntryCause BlockTwice r limits used e = (b : ℕ) × (2 ≤ marked used b + stored_uses r b (e ∷ []))
EntryCause Memory r limits used e = Unit {0}
EntryCause fault r limits used e = EntryFault fault r limits e

-- ---- entries one after another

-- stored entries are kept as these, and their blocks are marked
pub record KeepsEntries (r : Reading) (limits : Limits) (old new : List Bool) (es : List StoredEntry) (kept : List Entry) : Type 0 where
  pub is : kept ≡ map outlined_entry (flat_map (resolved r) es)
  pub len : length new ≡ length old
  pub marks : Marks new (λ b. marked old b + stored_uses r b es)
  pub resolved_all : All (IsResolved r) es
  pub proper : All (IsProper limits) (flat_map (resolved r) es)

-- why they aren't, behind others of their directory
abbrev pub EntriesCause : MountFault → Reading → Limits → List Bool → List Entry → List StoredEntry → Type 0
EntriesCause OrderFault r limits used before es = NamesFall (before ++ map outlined_entry (flat_map (resolved r) es))
EntriesCause BlockTwice r limits used before es = (b : ℕ) × (2 ≤ marked used b + stored_uses r b es)
EntriesCause Memory r limits used before es = Unit {0}
EntriesCause fault r limits used before es = Any (EntryFault fault r limits) es

-- ---- parts one after another

-- what a part that is read is, as a link
abbrev pub link_from : Reading → PairPart → Link
link_from r p = link_of r p.0 (Some p.1)

-- how often the entries of parts use a block
abbrev pub parts_use : Reading → ℕ → List PairPart → ℕ
parts_use r b ps = sum_by (λ p. stored_uses r b p.1.entries) ps

-- the entries of each are of files and directories, and proper
pub record IsProperPart (r : Reading) (limits : Limits) (p : PairPart) : Type 0 where
  pub resolved_all : All (IsResolved r) p.1.entries
  pub proper : All (IsProper limits) (flat_map (resolved r) p.1.entries)

-- the entries of parts
abbrev pub part_entries : List Part → List Entry
part_entries ps = flat_map (λ p. p.entries) ps

-- a part is kept as this behind the parts before it in its directory, and the blocks of its files are marked
pub record KeepsPart (r : Reading) (limits : Limits) (old new : List Bool) (p : PairPart) (before : List Part) (kept : Part) : Type 0 where
  pub is : kept ≡ outlined_part (link_from r p).part
  pub len : length new ≡ length old
  pub marks : Marks new (λ b. marked old b + stored_uses r b p.1.entries)
  pub proper : IsProperPart r limits p
  pub order : Rise (part_entries (before ++ kept ∷ []))

-- the directories that parts make, less the contents of chains
abbrev pub outlined_pieces : Reading → List PairPart → List Directory
outlined_pieces r ps = outlined_directories (pieces (map (link_from r) ps))

-- the directories of parts are kept, and the blocks of their files are marked, beside other uses
pub record KeepsParts (r : Reading) (limits : Limits) (others : ℕ → ℕ) (new : List Bool) (ps : List PairPart) (kept : List Directory) : Type 0 where
  pub is : kept ≡ outlined_pieces r ps
  pub len : length new ≡ r.count
  pub marks : Marks new (λ b. others b + parts_use r b ps)
  pub proper : All (IsProperPart r limits) ps
  pub order : All (λ d. Rise (entries d)) kept

-- why they aren't
abbrev pub PartsCause : MountFault → Reading → Limits → (ℕ → ℕ) → List PairPart → Type 0
PartsCause OrderFault r limits others ps = Any (λ d. NamesFall (entries d)) (outlined_pieces r ps)
PartsCause BlockTwice r limits others ps = (b : ℕ) × (2 ≤ others b + parts_use r b ps)
PartsCause Memory r limits others ps = Unit {0}
PartsCause fault r limits others ps = Any (λ p. Any (EntryFault fault r limits) p.1.entries) ps

-- parts as a directory, if there are any
abbrev pub as_directory : List Part → List Directory
as_directory [] = []
as_directory (p ∷ ps) = record { first = p; more = ps } ∷ []

-- a part that is kept is put behind those of its directory, which goes on or ends with it
abbrev pub Joins : Bool → Part → Joined → Joined → Type 0
Joins true kept old new = (new.directories.items ≡ old.directories.items) × (new.parts.items ≡ old.parts.items ++ kept ∷ [])
Joins false kept old new =
    (new.directories.items ≡ old.directories.items ++ as_directory (old.parts.items ++ kept ∷ [])) × (new.parts.items ≡ [])

-- a part is kept behind those so far, and the blocks of its files are marked
pub record KeepsNext (r : Reading) (limits : Limits) (used more : List Bool) (p : PairPart) (old new : Joined) : Type 0 where
  pub kept : Part
  pub keeps : KeepsPart r limits used more p old.parts.items kept
  pub joins : Joins (is_hard p.1.tail) kept old new
  pub state : new.state ≡ bit_xor old.state (little_endian p.1.delta)
