-- What is owed and made where pairs of an image are written one after another (own).
use Rattle.std.specs.Prelude.{ℕ, ◌≡◌, ◌≢◌, ◌<◌, ◌≤◌, ◌+◌, Bool, true, List, [], ◌∷◌, length, Contains, Some}
use Rattle.std.specs.List.{AllByRecursion}
use Rattle.lfs_block.specs.Change.{Change, IsRising}
use Rattle.lfs_block.specs.Disk.{Disk, put}
use Rattle.lfs_meta.specs.declared.tail.Tail.{Tail}
use Rattle.lfs_meta.specs.Attribute.{Attributes}
use Rattle.lfs_meta.specs.Body.{Pair}
use Rattle.lfs_meta.specs.Fits.{TailFits}
use Rattle.lfs_meta.specs.Complete.{IsComplete}
use Rattle.lfs_meta.specs.Weighing.{weights}
use Rattle.lfs_pair.specs.Difference.{Forced}
use Rattle.lfs_pair.specs.Writing.{stored_part}
use Rattle.lfs_meta.specs.LiveBlock.{stored_part_of}
use Rattle.lfs_meta.specs.Runs.{most_entries}
use Rattle.lfs_fs.specs.Directory.{Part}
use Rattle.lfs_fs.specs.State.{little_endian}
use Rattle.lfs_fs.specs.Thread.{Link}
use Rattle.lfs_fs.specs.Uses.{times}
use Rattle.lfs_command.specs.PairChanged.{pair_block, pair_number}
use Rattle.lfs_command.specs.PartWritten.{Found}
use Rattle.lfs_law.specs.WrittenLinks.{changed_blocks, block_after, set_uses, stored_entries, CanBeMade, CanBeWritten}

-- a part with the tail behind it
abbrev pub link_to : Part → Tail → Link
link_to p tail = record { part = p; tail = tail }

-- ---- one block

-- A change is put among others, which don't name its block: the block then holds what it says, and the others what they held.
pub record AddsChange (d : Disk) (c : Change) (old new : List Change) : Type 0 where
  pub rising : IsRising new
  pub made : AllByRecursion (CanBeMade d) new
  pub named : (n : ℕ) → times n (changed_blocks new) ≡ times n (changed_blocks old) + times n (c.number ∷ [])
  pub here : block_after d new c.number ≡ c.new
  pub others : (n : ℕ) → n ≢ c.number → block_after d new n ≡ block_after d old n

-- ---- one pair

-- what a stored part may be written for
pub record FitsPair (d : Disk) (part : Found) : Type 0 where
  pub apart : part.0.0 ≢ part.0.1
  pub first : part.0.0 < d.count
  pub second : part.0.1 < d.count
  pub complete : AllByRecursion IsComplete part.1.entries
  pub few : length part.1.entries ≤ most_entries
  pub room : weights part.1.entries + 40 ≤ d.size
  pub tail : TailFits part.1.tail

-- the block that carries a pair to a part, with its number: in the image with it the pair holds the part
pub record IsPairsBlock (d : Disk) (is_cut : Bool) (forced : Forced) (part : Found) (n : ℕ) (block : List ℕ) : Type 0 where
  pub number : n ≡ pair_number d is_cut forced part.0 part.1
  pub bytes : block ≡ pair_block d is_cut forced part.0 part.1
  pub len : length block ≡ d.size
  pub reads_back : stored_part_of (put n block d) part.0 ≡ Some part.1

-- a link as its part is stored, in its pair
pub record IsLinkStored (bytes : List ℕ) (attributes : Attributes) (l : Link) (part : Found) : Type 0 where
  pub pair : part.0 ≡ l.part.pair
  pub delta : List ℕ
  pub delta_is : little_endian delta ≡ l.part.delta
  pub part_is : part.1 ≡ stored_part (stored_entries bytes attributes l.part) l.tail delta

-- ---- links one after another

-- Links can be written behind changes: those that are set may be written, where no two of them, nor a change, use one block. A new
-- pair has no share of the global state.
pub record CanBeAdded (d : Disk) (bytes : List ℕ) (attributes : Attributes) (is_new : Pair → Bool) (old : List Change)
    (ls : List Link) : Type 0 where
  pub rising : IsRising old
  pub made : AllByRecursion (CanBeMade d) old
  pub once : (n : ℕ) → times n (changed_blocks old) + set_uses n ls ≤ 1
  pub may : (l : Link) → Contains ls l → l.part.dirty ≡ true → CanBeWritten d bytes attributes l
  pub fresh : (l : Link) → Contains ls l → l.part.dirty ≡ true → is_new l.part.pair ≡ true → l.part.delta ≡ 0
