-- An image that a device left unfinished, read as the device's next change leaves it (DESIGN.md, "The move problem"; what is dropped is
-- own).
use Rattle.std.specs.Prelude.{ℕ, ◌≡◌, ◌⊎◌, ◌==◌, ◌&&◌, ◌||◌, ◌++◌, Bool, true, false, List, [], ◌∷◌, length, map, replicate, Contains}
use Rattle.std.specs.Prelude.{Option, option_map, bytes_eq, find, if◌then◌else◌}
use Rattle.std.specs.List.{list_all}
use Rattle.std.specs.Option.{option_map_or, option_or}
use Rattle.lfs_block.specs.Disk.{Disk, IsDisk, block_of}
use Rattle.lfs_meta.specs.declared.tail.Tail.{Tail}
use Rattle.lfs_meta.specs.declared.tail.Tail.TheVariants.{End, Soft, Hard}
use Rattle.lfs_meta.specs.Body.{Pair}
use Rattle.lfs_meta.specs.LiveBlock.{stored_part_of}
use Rattle.lfs_meta.specs.Part.{StoredPart}
use Rattle.lfs_fs.specs.Pair.{same_pair}
use Rattle.lfs_fs.specs.Front.{pairs_name}
use Rattle.lfs_fs.specs.Gathering.{PairPart, delta_from}
use Rattle.lfs_fs.specs.Reading.{Reading}
use Rattle.lfs_fs.specs.Thread.{soft_to}
use Rattle.lfs_lower.specs.Alone.{IsAlone, IsLeft}
use Rattle.lfs_lower.specs.LaterReading.{later_reading_of}
use Rattle.lfs_lower.specs.OneSuperblock.{can_be_put}
use Rattle.lfs_settle.specs.InStep.{has_thread, in_step, thread_pairs, thread_parts}
use Rattle.lfs_settle.specs.Moved.{can_end, unmoved}
use Rattle.lfs_settle.specs.Reached.{groups, reached_of}

-- ---- the thread of the directories that stay

-- the tail after the directory before these
abbrev pub tail_to : List (List PairPart) → Tail
tail_to [] = End
tail_to ([] ∷ gs) = tail_to gs
tail_to ((p ∷ ps) ∷ gs) = soft_to p.0

-- the parts of one directory, the last of which has this tail
abbrev pub ending : Tail → List PairPart → List PairPart
ending tail [] = []
ending tail (p ∷ []) = (p.0, record { entries = p.1.entries; tail = tail; delta = p.1.delta }) ∷ []
ending tail (p ∷ q ∷ ps) = p ∷ ending tail (q ∷ ps)

-- directories in this order as one thread
abbrev pub threaded : List (List PairPart) → List PairPart
threaded [] = []
threaded (g ∷ gs) = ending (tail_to gs) g ++ threaded gs

-- ---- the state

abbrev pub without_share : PairPart → PairPart
without_share p = (p.0, record { entries = p.1.entries; tail = p.1.tail; delta = replicate 12 0 })

-- no part has a share of the state, unless the shares cancel each other
abbrev pub cleared : List PairPart → List PairPart
cleared ps = if delta_from ps == 0 then ps else map without_share ps

-- ---- all of it

-- the moved entry is gone, and so are the directories that no path leads to then; nothing is left to be done
abbrev pub settled_parts : List PairPart → List PairPart
settled_parts ps = cleared (threaded (reached_of (groups (map (unmoved (delta_from ps)) ps))))

abbrev pub same_tail : Tail → Tail → Bool
same_tail End End = true
same_tail (Soft a b) (Soft c d) = same_pair (a, b) (c, d)
same_tail (Hard a b) (Hard c d) = same_pair (a, b) (c, d)
same_tail _ _ = false

-- a settled part is as it was: it has as many entries, the same tail and the same share
abbrev pub is_kept : StoredPart → StoredPart → Bool
is_kept s t = (length s.entries == length t.entries) && same_tail s.tail t.tail && bytes_eq s.delta t.delta

-- a pair holds this part already
abbrev pub is_held : Reading → PairPart → Bool
is_held r p = option_map_or (is_kept p.1) (r.part p.0) false

-- a settled part is held already, or has the room that it takes
abbrev pub can_hold : Reading → PairPart → Bool
can_hold r p = is_held r p || can_be_put r.size r.count p.1

-- an image can be settled if its thread is whole, its state is one that a device ends, and there is room
abbrev pub can_settle : Reading → Reading → Bool
can_settle r s =
    has_thread s && can_end (delta_from (thread_parts s)) (thread_parts s) && list_all (λ p. can_hold r p) (settled_parts (thread_parts s))

-- the part that a pair has in a list of such
abbrev pub part_among : List PairPart → Pair → Option StoredPart
part_among ps p = option_map (λ q. q.1) (find (λ q. same_pair p q.0) ps)

-- pairs hold these parts, and all others what they held
abbrev pub with_parts : Reading → List PairPart → Reading
with_parts r ps = record {
  size = r.size;
  count = r.count;
  part = λ p. option_or (part_among ps p) (r.part p);
  chain = r.chain;
  content = r.content;
}

-- an image and what it is in step; if it can't be settled, all stays as it was
abbrev pub settled_by : Reading → Reading → Reading
settled_by r s = if can_settle r s then with_parts r (settled_parts (thread_parts s)) else r

abbrev pub settled : Reading → Reading
settled r = settled_by r (in_step r)

-- ---- the image

-- how a reader of version 2.1 reads an image, as the device's next change leaves it
abbrev pub settled_reading_of : Disk → Reading
settled_reading_of d = settled (later_reading_of d)

-- The pairs of the settled thread hold what they count as, and no older state of them can be taken, unless both versions read the same of
-- them. All other blocks are as they were.
pub record IsSettledImage (d e : Disk) : Type 0 where
  pub disk : IsDisk e
  pub size : e.size ≡ d.size
  pub count : e.count ≡ d.count
  pub held : (p : Pair) → Contains (thread_pairs (settled_reading_of d)) p → stored_part_of e p ≡ (settled_reading_of d).part p
  pub alone : (p : Pair) → Contains (thread_pairs (settled_reading_of d)) p → IsLeft d e p ⊎ IsAlone e p
  pub others : (b : ℕ) → pairs_name b (thread_pairs (settled_reading_of d)) ≡ 0 → block_of e b ≡ block_of d b
