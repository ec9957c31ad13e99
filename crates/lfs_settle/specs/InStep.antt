-- The thread of an image, read with each directory at the pair that its entry names (DESIGN.md, "The move problem").
use Rattle.std.specs.Prelude.{ℕ, ◌==◌, ◌&&◌, ◌||◌, Bool, List, [], length, flat_map, if◌then◌else◌}
use Rattle.std.specs.Prelude.{Option, Some, None, option_map, option_to_list, find}
use Rattle.std.specs.Option.{is_none, option_or}
use Rattle.lfs_meta.specs.declared.tail.Tail.{Tail}
use Rattle.lfs_meta.specs.declared.tail.Tail.TheVariants.{End, Soft, Hard}
use Rattle.lfs_meta.specs.Body.{Pair, StoredBody, Inline, Chain, Directory_at}
use Rattle.lfs_meta.specs.Part.{StoredPart}
use Rattle.lfs_fs.specs.Pair.{root, same_pair, unordered}
use Rattle.lfs_fs.specs.Front.{next_after, next_pair}
use Rattle.lfs_fs.specs.Gathering.{PairPart}
use Rattle.lfs_fs.specs.Reading.{Reading}
use Rattle.lfs_fs.specs.Thread.{soft_to}
use Rattle.lfs_lower.specs.Joining.{parts_held}
use Rattle.lfs_lower.specs.OneSuperblock.{pairs_along}

-- ---- the thread

-- the pairs along the thread, as far as it goes
abbrev pub thread_pairs : Reading → List Pair
thread_pairs r = pairs_along (next_pair r) r.count [] r.count (Some root)

-- what those of them hold that are read
abbrev pub thread_parts : Reading → List PairPart
thread_parts r = parts_held r (thread_pairs r)

-- the thread is whole: all its pairs are read, and none follows them
abbrev pub has_thread : Reading → Bool
has_thread r = (length (thread_parts r) == length (thread_pairs r)) && is_none (next_after r (thread_pairs r))

-- ---- pairs that have blocks in common

abbrev pub has_block : Pair → ℕ → Bool
has_block p b = (b == p.0) || (b == p.1)

-- a block in common: so a device compares pairs
abbrev pub meets : Pair → Pair → Bool
meets p q = has_block p q.0 || has_block p q.1

-- both blocks in common
abbrev pub same_blocks : Pair → Pair → Bool
same_blocks p q = same_pair (unordered p) (unordered q)

-- ---- pairs that entries name

abbrev pub pair_named : StoredBody → Option Pair
pair_named (Inline bytes) = None
pair_named (Chain head size) = None
pair_named (Directory_at first second) = Some (first, second)

-- the pairs that the entries of parts name, in their order
abbrev pub pairs_named : List PairPart → List Pair
pairs_named ps = flat_map (λ p. flat_map (λ e. option_to_list (pair_named e.body)) p.1.entries) ps

-- ---- the thread in step

-- the pair that an entry names, unless it is the same one
abbrev pub stepped_to : Pair → Option Pair → Pair
stepped_to p None = p
stepped_to p (Some q) = if same_blocks p q then p else q

-- the first of the pairs that entries name which has a block
abbrev pub first_with : List Pair → ℕ → Option Pair
first_with named b = find (λ q. has_block q b) named

-- Where a device moves a directory's pair, one block stays, and the entry names the new pair first. So the pair is right that an entry
-- names and that has a block of this one.
abbrev pub in_step_with : List Pair → Pair → Pair
in_step_with named p = stepped_to p (option_or (first_with named p.0) (first_with named p.1))

abbrev pub stepped_tail : List Pair → Tail → Tail
stepped_tail named End = End
stepped_tail named (Soft first second) = soft_to (in_step_with named (first, second))
stepped_tail named (Hard first second) = Hard first second

abbrev pub stepped_part : List Pair → StoredPart → StoredPart
stepped_part named s = record { entries = s.entries; tail = stepped_tail named s.tail; delta = s.delta }

-- a reading whose soft tails lead to the pairs that entries name
abbrev pub stepping : List Pair → Reading → Reading
stepping named r = record {
  size = r.size;
  count = r.count;
  part = λ p. option_map (stepped_part named) (r.part p);
  chain = r.chain;
  content = r.content;
}

-- they lead to the pairs that the entries along the thread name
abbrev pub in_step : Reading → Reading
in_step r = stepping (pairs_named (thread_parts r)) r
