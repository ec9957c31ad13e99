-- An image whose directories have no later part without an entry (SPEC.md, "0x6xx tail"; what leaves is own).
use Rattle.std.specs.Prelude.{ℕ, ◌≡◌, ◌⊎◌, ◌==◌, ◌&&◌, Bool, true, false, Contains, List, [], ◌∷◌, length, map, not, if◌then◌else◌}
use Rattle.std.specs.List.{filter, list_all}
use Rattle.lfs_block.specs.Disk.{Disk, IsDisk, block_of}
use Rattle.lfs_meta.specs.Body.{Pair}
use Rattle.lfs_meta.specs.Entry.{StoredEntry}
use Rattle.lfs_meta.specs.LiveBlock.{stored_part_of}
use Rattle.lfs_fs.specs.Front.{pairs_name}
use Rattle.lfs_fs.specs.Gathering.{PairPart, delta_from}
use Rattle.lfs_fs.specs.Reading.{Reading, reading_of}
use Rattle.lfs_fs.specs.Thread.{is_hard}
use Rattle.lfs_lower.specs.Alone.{IsAlone, IsSame}
use Rattle.lfs_settle.specs.InStep.{has_thread, thread_pairs, thread_parts}
use Rattle.lfs_settle.specs.Settled.{can_hold, is_held, with_parts, without_share}

-- ---- parts

abbrev pub is_empty : List StoredEntry → Bool
is_empty [] = true
is_empty (e ∷ es) = false

-- a part with the tail of another one
abbrev pub with_tail_of : PairPart → PairPart → PairPart
with_tail_of q p = (p.0, record { entries = p.1.entries; tail = q.1.tail; delta = p.1.delta })

-- A later part of a directory, to which a hard tail leads, leaves if it is empty. The part before it gets its tail.
abbrev pub without_emptied : PairPart → List PairPart → List PairPart
without_emptied p [] = p ∷ []
without_emptied p (q ∷ qs) =
    if is_hard p.1.tail && is_empty q.1.entries then without_emptied (with_tail_of q p) qs else p ∷ without_emptied q qs

-- none of the parts has a share of the state, unless there are this many
abbrev pub cleared_unless : ℕ → List PairPart → List PairPart
cleared_unless count ps = if length ps == count then ps else map without_share ps

-- The parts that stay of a thread. If some leave, those that stay have no share of the state: all shares cancel each other.
abbrev pub tidied_parts : List PairPart → List PairPart
tidied_parts [] = []
tidied_parts (p ∷ ps) = cleared_unless (length (p ∷ ps)) (without_emptied p ps)

-- ---- an image

-- An image can be tidied if its thread is whole, the shares of the state cancel each other, and there is room.
abbrev pub can_tidy : Reading → Bool
can_tidy r = has_thread r && (delta_from (thread_parts r) == 0) && list_all (λ p. can_hold r p) (tidied_parts (thread_parts r))

-- an image with its thread's tidied parts; if it can't be tidied, all stays as it was
abbrev pub tidied : Reading → Reading
tidied r = if can_tidy r then with_parts r (tidied_parts (thread_parts r)) else r

-- the tidied parts that pairs don't hold already
abbrev pub changed_parts : Reading → List PairPart
changed_parts r = filter (λ p. not (is_held r p)) (tidied_parts (thread_parts r))

-- those that are to be put: none if the image can't be tidied
abbrev pub parts_to_put : Reading → List PairPart
parts_to_put r = if can_tidy r then changed_parts r else []

-- The pairs of the tidied thread hold what they count as, and no older state of them can be taken, unless they are as they were. All other
-- blocks are as they were. If no part is to be put, the image is as it was.
pub record IsTidiedImage (d e : Disk) : Type 0 where
  pub disk : IsDisk e
  pub size : e.size ≡ d.size
  pub count : e.count ≡ d.count
  pub held : (p : Pair) → Contains (thread_pairs (tidied (reading_of d))) p → stored_part_of e p ≡ (tidied (reading_of d)).part p
  pub alone : (p : Pair) → Contains (thread_pairs (tidied (reading_of d))) p → IsSame d e p ⊎ IsAlone e p
  pub others : (b : ℕ) → pairs_name b (thread_pairs (tidied (reading_of d))) ≡ 0 → block_of e b ≡ block_of d b
  pub stays : parts_to_put (reading_of d) ≡ [] → e ≡ d
