-- The thread of an image: its parts from the root's pair on, each named by the tail before it, and the directories that
-- they make (SPEC.md, "0x6xx tail").
use Rattle.std.specs.Prelude.{◌≡◌, Bool, true, false, List, [], ◌∷◌, ◌++◌, Option, Some, None, if◌then◌else◌}
use Rattle.lfs_meta.specs.declared.tail.Tail.{Tail}
use Rattle.lfs_meta.specs.declared.tail.Tail.TheVariants.{End, Soft, Hard}
use Rattle.lfs_meta.specs.Body.{Pair}
use Rattle.lfs_fs.specs.Directory.{Part, Directory, parts}

-- a part with the tail behind it
pub record Link : Type 0 where
  pub part : Part
  pub tail : Tail

-- the thread goes on in the same directory
abbrev pub is_hard : Tail → Bool
is_hard End = false
is_hard (Soft a b) = false
is_hard (Hard a b) = true

-- the pair that a tail names
abbrev pub next : Tail → Option Pair
next End = None
next (Soft a b) = Some (a, b)
next (Hard a b) = Some (a, b)

-- a part put before the first directory
abbrev pub joined_to : Part → List Directory → List Directory
joined_to p [] = record { first = p; more = [] } ∷ []
joined_to p (d ∷ ds) = record { first = p; more = parts d } ∷ ds

-- the thread cut after each part that has no hard tail
abbrev pub pieces : List Link → List Directory
pieces [] = []
pieces (l ∷ ls) = if is_hard l.tail then joined_to l.part (pieces ls) else record { first = l.part; more = [] } ∷ pieces ls

-- the tail to another directory
abbrev pub soft_to : Pair → Tail
soft_to pair = Soft pair.0 pair.1

-- the tail to the next part of the same directory
abbrev pub hard_to : Pair → Tail
hard_to pair = Hard pair.0 pair.1

-- the parts of one directory, with a tail behind the last
abbrev pub links_of : Part → List Part → Tail → List Link
links_of p [] tail = record { part = p; tail = tail } ∷ []
links_of p (q ∷ ps) tail = record { part = p; tail = hard_to q.pair } ∷ links_of q ps tail

-- the tail behind the directory before these
abbrev pub tail_to : List Directory → Tail
tail_to [] = End
tail_to (d ∷ ds) = soft_to d.first.pair

-- the thread of directories in this order: hard tails within one, a soft one to the next, none at the end
abbrev pub links : List Directory → List Link
links [] = []
links (d ∷ ds) = links_of d.first d.more (tail_to ds) ++ links ds

-- the law: a thread written is the directories that were
abbrev pub PiecesOfLinks : Type 0
PiecesOfLinks = (ds : List Directory) → pieces (links ds) ≡ ds
