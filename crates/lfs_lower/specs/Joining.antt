-- The parts of the pairs of superblocks, as they are gathered (own).
use Rattle.std.specs.Prelude.{ℕ, ◌≡◌, ◌≢◌, ◌<◌, ◌≤◌, ◌⊎◌, Bool, true, false, Contains, map, Some, None, List, [], ◌∷◌, ◌++◌, length, flat_map, Option, option_map, option_to_list, All}
use Rattle.std.specs.List.{AllByRecursion}
use Rattle.lfs_block.specs.Disk.{Disk, IsDisk, block_of}
use Rattle.lfs_meta.specs.Body.{Pair}
use Rattle.lfs_meta.specs.LiveBlock.{stored_part_of}
use Rattle.lfs_meta.specs.Entry.{StoredEntry}
use Rattle.lfs_meta.specs.Complete.{IsComplete}
use Rattle.lfs_pair.specs.Appending.{live_number}
use Rattle.lfs_pair.specs.Writing.{live_revision, other_number}
use Rattle.lfs_fs.specs.Front.{pairs_name}
use Rattle.lfs_fs.specs.Gathering.{PairPart}
use Rattle.lfs_fs.specs.Reading.{Reading, reading_of}
use Rattle.lfs_fs.specs.Used.{Marks, unmarked}
use Rattle.lfs_lower.specs.declared.putting.PairPlaces.{PairPlaces}
use Rattle.lfs_lower.specs.Alone.{IsAlone, IsSame}
use Rattle.lfs_lower.specs.OneSuperblock.{behind_superblock, can_be_put, entry_or, is_superblock, lowered_entry, superblock_in, lead, pairs_along, superblock_pairs}

-- what pairs hold, each with its pair; those that hold no part are left out
abbrev pub parts_held : Reading → List Pair → List PairPart
parts_held r ps = flat_map (λ p. option_to_list (option_map (λ s. (p, s)) (r.part p))) ps

-- entries begin with a superblock
abbrev pub begins_so : List StoredEntry → Bool
begins_so [] = false
begins_so (e ∷ es) = is_superblock e

-- parts are gathered of some pairs of superblocks, whose blocks are marked, and this pair may follow
pub record AreGathered (r : Reading) (used : List Bool) (parts : List PairPart) (from : Option Pair) : Type 0 where
  pub before : List Pair
  pub n : ℕ
  pub len : length used ≡ r.count
  pub marks : Marks used (λ b. pairs_name b before)
  pub enough : unmarked used ≤ n
  pub left : parts ++ parts_held r (pairs_along (lead r) r.count before n from) ≡ parts_held r (superblock_pairs r)
  pub complete : All (λ p. AllByRecursion IsComplete p.1.entries) parts

-- ---- parts with one superblock

-- a part without the superblock that it begins with
abbrev pub stripped : PairPart → PairPart
stripped p = (p.0, record { entries = behind_superblock p.1.entries; tail = p.1.tail; delta = p.1.delta })

-- that superblock, of version 2.0
abbrev pub lowered_in : PairPart → Option StoredEntry
lowered_in p = option_map lowered_entry (superblock_in p.1.entries)

-- the last one of parts, behind another one
abbrev pub last_in : Option StoredEntry → List PairPart → Option StoredEntry
last_in found [] = found
last_in found (p ∷ ps) = last_in (entry_or (lowered_in p) found) ps

-- an entry put before those of the first part
abbrev pub with_first : StoredEntry → List PairPart → List PairPart
with_first e [] = []
with_first e (p ∷ ps) = (p.0, record { entries = e ∷ p.1.entries; tail = p.1.tail; delta = p.1.delta }) ∷ ps

-- ---- pairs rewritten

-- where the blocks of a pair stand: the live one with its revision, and the other one
pub record ArePlaces (d : Disk) (pair : Pair) (places : PairPlaces) : Type 0 where
  pub live : places.live ≡ live_number d pair
  pub beside : places.beside ≡ other_number d pair
  pub revision : places.revision ≡ live_revision d pair

-- A pair holds a part, and no older state of it can be taken, unless it held the part before. All blocks but the pair's are as they were.
pub record IsPartPut (d e : Disk) (p : PairPart) : Type 0 where
  pub disk : IsDisk e
  pub size : e.size ≡ d.size
  pub count : e.count ≡ d.count
  pub held : stored_part_of e p.0 ≡ Some p.1
  pub alone : IsSame d e p.0 ⊎ IsAlone e p.0
  pub others : (b : ℕ) → b ≢ p.0.0 → b ≢ p.0.1 → block_of e b ≡ block_of d b

-- the same of the pairs of parts
pub record ArePartsPut (d e : Disk) (ps : List PairPart) : Type 0 where
  pub disk : IsDisk e
  pub size : e.size ≡ d.size
  pub count : e.count ≡ d.count
  pub held : (p : PairPart) → Contains ps p → stored_part_of e p.0 ≡ Some p.1
  pub alone : (p : PairPart) → Contains ps p → IsSame d e p.0 ⊎ IsAlone e p.0
  pub others : (b : ℕ) → pairs_name b (map (λ p. p.0) ps) ≡ 0 → block_of e b ≡ block_of d b

-- a pair may be rewritten with a part
pub record CanPut (d : Disk) (p : PairPart) : Type 0 where
  pub apart : p.0.0 ≢ p.0.1
  pub first : p.0.0 < d.count
  pub second : p.0.1 < d.count
  pub complete : AllByRecursion IsComplete p.1.entries
  pub can : can_be_put d.size d.count p.1 ≡ true

-- an entry, if there is one, put before those of the first part
abbrev pub led_parts : Option StoredEntry → List PairPart → List PairPart
led_parts None ps = ps
led_parts (Some e) ps = with_first e ps

-- parts with one superblock: each without its own, and the last one before the entries of the first
abbrev pub with_one : List PairPart → List PairPart
with_one ps = led_parts (last_in None ps) (map stripped ps)

-- the parts that the pairs of superblocks are to hold
pub record AreSuperblockParts (d : Disk) (parts : List PairPart) : Type 0 where
  pub is : parts ≡ with_one (parts_held (reading_of d) (superblock_pairs (reading_of d)))
  pub complete : All (λ p. AllByRecursion IsComplete p.1.entries) parts
