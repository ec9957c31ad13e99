-- Laws of settled parts and images (own).
use Rattle.std.specs.Prelude.{ℕ, ◌≡◌, ◌≤◌, ◌↔◌, Bool, true, false, List, [], ◌∷◌, ◌++◌, length, map, Contains, Option, Some, None, ◌&&◌}
use Rattle.lfs_block.specs.Disk.{Disk, IsDisk}
use Rattle.lfs_meta.specs.Body.{Pair}
use Rattle.lfs_meta.specs.Entry.{StoredEntry}
use Rattle.lfs_fs.specs.Front.{pairs_name}
use Rattle.lfs_fs.specs.Gathering.{PairPart, delta_from}
use Rattle.lfs_fs.specs.Holds.{Holds}
use Rattle.lfs_fs.specs.Reading.{Reading, reading_of}
use Rattle.lfs_fs.specs.Sound.{IsSound}
use Rattle.lfs_fs.specs.Thread.{next}
use Rattle.lfs_fs.specs.Volume.{Volume}
use Rattle.std.specs.List.{filter}
use Rattle.lfs_settle.specs.Ended.{dropped_of, moved_of, steps_of}
use Rattle.lfs_settle.specs.InStep.{has_thread, in_step, thread_parts}
use Rattle.lfs_settle.specs.Moved.{is_move, means, moved_entry, unmoved}
use Rattle.lfs_settle.specs.Reached.{begins_in, groups, named_by, named_within, reached_of}
use Rattle.lfs_settle.specs.Settled.{IsSettledImage, cleared, settled, settled_parts, settled_reading_of}

-- ---- lists of parts

-- the first pair of parts
abbrev pub first_pair : List PairPart → Option Pair
first_pair [] = None
first_pair (p ∷ ps) = Some p.0

-- each tail names the next pair, and the last one none
abbrev pub AreLinked : List PairPart → Type 0
AreLinked [] = Unit {0}
AreLinked (p ∷ ps) = (next p.1.tail ≡ first_pair ps) × AreLinked ps

-- the law: parts without a state, all of whose directories a path leads to, stay
abbrev pub SettledStay : Type 0
SettledStay = (ps : List PairPart) → delta_from ps ≡ 0 → AreLinked ps → reached_of (groups ps) ≡ groups ps → settled_parts ps ≡ ps

-- the law: no state is left
abbrev pub SettledHaveNoState : Type 0
SettledHaveNoState = (ps : List PairPart) → delta_from (settled_parts ps) ≡ 0

-- the law: the parts that stay are one thread
abbrev pub SettledAreLinked : Type 0
SettledAreLinked = (ps : List PairPart) → AreLinked ps → AreLinked (settled_parts ps)

-- the law: no block is named more often
abbrev pub SettledNameNoMore : Type 0
SettledNameNoMore = (ps : List PairPart) (b : ℕ) → pairs_name b (map (λ p. p.0) (settled_parts ps)) ≤ pairs_name b (map (λ p. p.0) ps)

-- the law: of the pair that a move means, the entry of its number goes, and those before and after it stay
abbrev pub MovedEntryGoes : Type 0
MovedEntryGoes = (state : ℕ) (p : PairPart) (before : List StoredEntry) (x : StoredEntry) (after : List StoredEntry) → is_move state ≡ true
    → means state p.0 ≡ true → p.1.entries ≡ before ++ x ∷ after → length before ≡ moved_entry state
    → unmoved state p ≡ (p.0, record { entries = before ++ after; tail = p.1.tail; delta = p.1.delta })

-- the law: all other parts stay
abbrev pub OthersStay : Type 0
OthersStay = (state : ℕ) (p : PairPart) → (is_move state && means state p.0) ≡ false → unmoved state p ≡ p

-- ---- what is ended

-- the law: if no entry was moved, no directory is dropped and no tail takes a step, then the parts of a whole thread stay, but for their
-- shares of the state
abbrev pub NothingEndedStays : Type 0
NothingEndedStays = (r : Reading) → has_thread (in_step r) ≡ true → moved_of (thread_parts (in_step r)) ≡ None
    → dropped_of (thread_parts (in_step r)) ≡ [] → steps_of r ≡ [] → settled_parts (thread_parts (in_step r)) ≡ cleared (thread_parts r)

-- ---- directories that are reached

-- the law: a directory that is named by a path of any length is reached
abbrev pub NamedAreReached : Type 0
NamedAreReached = (gs : List (List PairPart)) (n : ℕ) (g : List PairPart) → Contains gs g → begins_in (named_within gs n) g ≡ true
    → Contains (reached_of gs) g

-- some directories are those that a path leads to: each of them is named by a path, and each that they name is one of them
pub record AreAllReached (gs : List (List PairPart)) (test : List PairPart → Bool) : Type 0 where
  pub reached : (g : List PairPart) → Contains gs g → test g ≡ true → (n : ℕ) × (begins_in (named_within gs n) g ≡ true)
  pub closed : (g : List PairPart) → Contains gs g → begins_in (named_by (filter test gs)) g ≡ true → test g ≡ true

-- the law: those are the ones that are reached
abbrev pub ClosedAreReached : Type 0
ClosedAreReached = (gs : List (List PairPart)) (test : List PairPart → Bool) → AreAllReached gs test → filter test gs ≡ reached_of gs

-- ---- images

-- the law: a settled image holds the sound volumes that version 2.1 reads in the other one once it is settled, and no other
abbrev pub SettledImagesHoldWhatIsRead : Type 0
SettledImagesHoldWhatIsRead = (d e : Disk) (v : Volume) → IsDisk d → IsSettledImage d e → IsSound v
    → Holds (reading_of e) v ↔ Holds (settled_reading_of d) v

-- the law: a sound volume that is held stays
abbrev pub SettledStays : Type 0
SettledStays = (r : Reading) (v : Volume) → IsSound v → Holds r v → Holds (settled r) v
