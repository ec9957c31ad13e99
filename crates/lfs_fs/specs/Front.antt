-- The fronts of the thread, and the thread (SPEC.md, "0x6xx tail").
use Rattle.std.specs.Prelude.{ℕ, ◌<◌, ◌≤◌, ◌≡◌, ◌⊎◌, ◌++◌, List, [], ◌∷◌, Option, Some, None, All, sum_by, IsSome}
use Rattle.lfs_meta.specs.Body.{Pair}
use Rattle.lfs_meta.specs.Part.{StoredPart}
use Rattle.lfs_fs.specs.Pair.{root}
use Rattle.lfs_fs.specs.Uses.{times}
use Rattle.lfs_fs.specs.Thread.{next}
use Rattle.lfs_fs.specs.Reading.{Reading}

-- the pair that follows a part
abbrev pub tail_of : Option StoredPart → Option Pair
tail_of None = None
tail_of (Some p) = next p.tail

-- the pair that follows a pair
abbrev pub next_pair : Reading → Pair → Option Pair
next_pair r p = tail_of (r.part p)

-- the pair that follows a list of pairs that begins at `from`
abbrev pub after : (Pair → Option Pair) → Option Pair → List Pair → Option Pair
after step from [] = from
after step from (p ∷ ps) = after step (step p) ps

-- each pair is the one that follows those before it
abbrev pub Follow : (Pair → Option Pair) → Option Pair → List Pair → Type 0
Follow step from [] = Unit {0}
Follow step from (p ∷ ps) = (from ≡ Some p) × Follow step (step p) ps

-- how often a pair names a block
abbrev pub pair_names : ℕ → Pair → ℕ
pair_names b p = times b (p.0 ∷ p.1 ∷ [])

-- how often pairs name a block
abbrev pub pairs_name : ℕ → List Pair → ℕ
pairs_name b ps = sum_by (pair_names b) ps

-- the pair that follows a front
abbrev pub next_after : Reading → List Pair → Option Pair
next_after r ps = after (next_pair r) (Some root) ps

-- A front: pairs from the root's on, each next one the tail of the part before, of blocks of the disk, none named twice.
pub record IsFront (r : Reading) (ps : List Pair) : Type 0 where
  pub follow : Follow (next_pair r) (Some root) ps
  pub within : (b : ℕ) → 0 < pairs_name b ps → b < r.count
  pub once : (b : ℕ) → pairs_name b ps ≤ 1

-- The thread is the front of parts that are read behind which no pair follows.
pub record IsThread (r : Reading) (ps : List Pair) : Type 0 where
  pub front : IsFront r ps
  pub parts : All (λ p. IsSome (r.part p)) ps
  pub ends : next_after r ps ≡ None

-- a list begins another one
abbrev pub Begins : List Pair → List Pair → Type 0
Begins front complete = (rest : List Pair) × (complete ≡ front ++ rest)

-- the law: of two fronts of one image, one begins the other
abbrev pub FrontsBeginEachOther : Type 0
FrontsBeginEachOther = (r : Reading) (ps qs : List Pair) → IsFront r ps → IsFront r qs → Begins ps qs ⊎ Begins qs ps
