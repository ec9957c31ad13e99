-- Links of an outline as they are written: changes of an image, one after another (own).
use Rattle.std.specs.Prelude.{ℕ, ◌≡◌, ◌≢◌, ◌<◌, ◌≤◌, ◌+◌, ◌==◌, Bool, true, false, List, [], ◌∷◌, Option, Some, if◌then◌else◌, length, map, flat_map}
use Rattle.std.specs.Prelude.{sum_by, Contains}
use Rattle.std.specs.List.{AllByRecursion}
use Rattle.lfs_block.specs.Disk.{Disk, block_of}
use Rattle.lfs_block.specs.Change.{Change, IsRising, IsBlockChange, overlaid}
use Rattle.lfs_block.specs.Patch.{Stands}
use Rattle.lfs_meta.specs.Attribute.{Attributes}
use Rattle.lfs_meta.specs.Body.{Pair}
use Rattle.lfs_meta.specs.Entry.{StoredEntry}
use Rattle.lfs_meta.specs.Part.{StoredPart}
use Rattle.lfs_meta.specs.Fits.{TailFits}
use Rattle.lfs_meta.specs.Complete.{IsComplete}
use Rattle.lfs_meta.specs.Weighing.{weights}
use Rattle.lfs_pair.specs.Difference.{Forced}
use Rattle.lfs_pair.specs.Writing.{part_in, stored_part}
use Rattle.lfs_meta.specs.Runs.{most_entries}
use Rattle.lfs_fs.specs.AsStored.{stored_entry}
use Rattle.lfs_fs.specs.Directory.{Part}
use Rattle.lfs_fs.specs.State.{little_endian}
use Rattle.lfs_fs.specs.Thread.{Link}
use Rattle.lfs_fs.specs.Uses.{pair_uses, times}
use Rattle.lfs_fs.specs.Stored.{stored_before}
use Rattle.lfs_command.specs.PairChanged.{beside, is_cut_by, pair_block, pair_number}
use Rattle.lfs_command.specs.PartWritten.{FirstIsFilled}

-- the stored entries of a part, the superblock's in front in the root's first one
abbrev pub stored_entries : List ℕ → Attributes → Part → List StoredEntry
stored_entries bytes attributes p = stored_before bytes attributes p.pair (map stored_entry p.entries)

-- ---- what changes make of blocks

-- the blocks that changes are of
abbrev pub changed_blocks : List Change → List ℕ
changed_blocks cs = map (λ c. c.number) cs

-- what a block of an image then holds
abbrev pub block_after : Disk → List Change → ℕ → List ℕ
block_after d cs n = overlaid cs n (block_of d n)

-- the part that a pair then holds
abbrev pub part_after : Disk → List Change → Pair → Option StoredPart
part_after d cs pair = part_in (block_after d cs pair.0) (block_after d cs pair.1)

-- the first block of a pair then has the part that it holds, alone, and the second one is erased
abbrev pub FillsFirst : Disk → List Change → Pair → Type 0
FillsFirst d cs pair = FirstIsFilled d.size (block_after d cs pair.0) (block_after d cs pair.1)

-- a change that can be made of an image
pub record CanBeMade (d : Disk) (c : Change) : Type 0 where
  pub stands : Stands d c
  pub complete : IsBlockChange d.size c

-- ---- which blocks are written

-- the block of a pair that changes name: the first one, or else the second
abbrev pub number_in : List Change → Pair → ℕ
number_in cs pair = if times pair.0 (changed_blocks cs) == 0 then pair.1 else pair.0

-- both of a new pair; of another one the block that is changed
abbrev pub written_blocks : List Change → (Pair → Bool) → Pair → List ℕ
written_blocks cs is_new pair = if is_new pair then pair.0 ∷ pair.1 ∷ [] else number_in cs pair ∷ []

-- those of a part's pair, where the part is set
abbrev pub set_blocks : List Change → (Pair → Bool) → Part → List ℕ
set_blocks cs is_new p = if p.dirty then written_blocks cs is_new p.pair else []

-- those of all links
abbrev pub links_blocks : List Change → (Pair → Bool) → List Link → List ℕ
links_blocks cs is_new ls = flat_map (λ l. set_blocks cs is_new l.part) ls

-- how often the pairs of links that are set use a block
abbrev pub set_uses : ℕ → List Link → ℕ
set_uses n ls = sum_by (λ (l : Link). if l.part.dirty then pair_uses n l.part else 0) ls

-- ---- one pair

-- Changes make a pair hold a part by the block that carries it there, and leave its other block.
pub record IsPairWritten (d : Disk) (is_cut : Bool) (forced : Forced) (pair : Pair) (cs : List Change) : Type 0 where
  pub part : StoredPart
  pub holds : part_after d cs pair ≡ Some part
  pub here : block_after d cs (pair_number d is_cut forced pair part) ≡ pair_block d is_cut forced pair part
  pub there : block_after d cs (beside pair (pair_number d is_cut forced pair part))
      ≡ block_of d (beside pair (pair_number d is_cut forced pair part))

-- the pairs of the links that are set, new ones aside, are written so
abbrev pub ChangesLinks : Disk → (Pair → Bool) → Forced → List Link → List Change → Type 0
ChangesLinks d is_new forced ls cs = (l : Link) → Contains ls l → l.part.dirty ≡ true → is_new l.part.pair ≡ false
    → IsPairWritten d (is_cut_by is_new l.tail) forced l.part.pair cs

-- ---- one link

-- what a link's part may be written for
pub record CanBeWritten (d : Disk) (bytes : List ℕ) (attributes : Attributes) (l : Link) : Type 0 where
  pub apart : l.part.pair.0 ≢ l.part.pair.1
  pub first : l.part.pair.0 < d.count
  pub second : l.part.pair.1 < d.count
  pub complete : AllByRecursion IsComplete (stored_entries bytes attributes l.part)
  pub few : length (stored_entries bytes attributes l.part) ≤ most_entries
  pub room : weights (stored_entries bytes attributes l.part) + 40 ≤ d.size
  pub tail : TailFits l.tail

-- changes that can be made, none of them of the pair's blocks
pub record IsFreeFor (d : Disk) (pair : Pair) (old : List Change) : Type 0 where
  pub rising : IsRising old
  pub made : AllByRecursion (CanBeMade d) old
  pub first : times pair.0 (changed_blocks old) ≡ 0
  pub second : times pair.1 (changed_blocks old) ≡ 0

-- Changes of some blocks of a pair, and of no others, are put among old ones, and make the pair hold a part.
pub record AddsPart (d : Disk) (pair : Pair) (blocks : List ℕ) (part : StoredPart) (old new : List Change) : Type 0 where
  pub rising : IsRising new
  pub made : AllByRecursion (CanBeMade d) new
  pub named : (n : ℕ) → times n (changed_blocks new) ≡ times n (changed_blocks old) + times n blocks
  pub others : (n : ℕ) → times n blocks ≡ 0 → block_after d new n ≡ block_after d old n
  pub back : part_after d new pair ≡ Some part

-- the part that a link's pair is to hold, with these twelve bytes of delta
abbrev pub link_part : List ℕ → Attributes → Link → List ℕ → StoredPart
link_part bytes attributes l delta = stored_part (stored_entries bytes attributes l.part) l.tail delta

-- the same of a link's pair and the part that it is to hold, where a new pair holds it in its first block
pub record AddsLink (d : Disk) (bytes : List ℕ) (attributes : Attributes) (is_new : Pair → Bool) (l : Link)
    (old new : List Change) : Type 0 where
  pub delta : List ℕ
  pub delta_is : little_endian delta ≡ l.part.delta
  pub adds : AddsPart d l.part.pair (written_blocks new is_new l.part.pair) (link_part bytes attributes l delta) old new
  pub filled : is_new l.part.pair ≡ true → FillsFirst d new l.part.pair

-- ---- all links

-- the changes make a link's pair hold it, a new one in its first block
pub record MakesLink (d : Disk) (bytes : List ℕ) (attributes : Attributes) (is_new : Pair → Bool)
    (cs : List Change) (l : Link) : Type 0 where
  pub delta : List ℕ
  pub delta_is : little_endian delta ≡ l.part.delta
  pub part : part_after d cs l.part.pair ≡ Some (link_part bytes attributes l delta)
  pub filled : is_new l.part.pair ≡ true → FillsFirst d cs l.part.pair

-- Changes of blocks of the pairs of links that are set, beside those in `base`, and no others, which stay. They make the pairs
-- of the links that are set hold them.
pub record AreWritten (d : Disk) (bytes : List ℕ) (attributes : Attributes) (is_new : Pair → Bool)
    (base : List Change) (ls : List Link) (cs : List Change) : Type 0 where
  pub rising : IsRising cs
  pub made : AllByRecursion (CanBeMade d) cs
  pub named : (n : ℕ) → times n (changed_blocks cs) ≡ times n (changed_blocks base) + times n (links_blocks cs is_new ls)
  pub kept : (n : ℕ) → 0 < times n (changed_blocks base) → block_after d cs n ≡ block_after d base n
  pub makes : (l : Link) → Contains ls l → l.part.dirty ≡ true → MakesLink d bytes attributes is_new cs l
