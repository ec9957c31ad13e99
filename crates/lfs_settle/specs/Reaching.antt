-- Directories that are found to be reached, one after another (own).
use Rattle.std.specs.Prelude.{ℕ, ◌≡◌, ◌⊎◌, ◌+◌, ◌*◌, ◌≤◌, ◌++◌, Bool, true, false, cond, List, [], ◌∷◌, Contains, length, Option, Some, None, All, slice_get, slice_index_or, slice_set}
use Rattle.lfs_meta.specs.Body.{Pair}
use Rattle.lfs_fs.specs.DirectoryTable.{look_up}
use Rattle.lfs_fs.specs.Gathering.{PairPart}
use Rattle.lfs_fs.specs.Pair.{root, same_pair, unordered}
use Rattle.lfs_fs.specs.Used.{unmarked}
use Rattle.lfs_settle.specs.InStep.{pairs_named}
use Rattle.lfs_settle.specs.Reached.{begins_in, named_within}

-- ---- directories under their first pairs

-- the directory of these parts has this first pair, the lesser block first
abbrev pub begins_with : Pair → List PairPart → Bool
begins_with k [] = false
begins_with k (p ∷ ps) = same_pair k (unordered p.0)

-- where a directory with this first pair stands, if there is one
abbrev pub Stands : List (List PairPart) → Pair → Option ℕ → Type 0
Stands gs k None = All (λ g. begins_with k g ≡ false) gs
Stands gs k (Some i) = (g : List PairPart) × (slice_get gs i ≡ Some g) × (begins_with k g ≡ true)

-- a table says where each stands
abbrev pub AreListed : List (List PairPart) → List (Pair × ℕ) → Type 0
AreListed gs table = (k : Pair) → Stands gs k (look_up k table)

-- no two directories begin at one pair
abbrev pub AreApart : List (List PairPart) → Type 0
AreApart gs = (i j : ℕ) (g h : List PairPart) (k : Pair) → slice_get gs i ≡ Some g → slice_get gs j ≡ Some h → begins_with k g ≡ true
    → begins_with k h ≡ true → i ≡ j

-- ---- flags

-- a flag
abbrev pub flag : List Bool → ℕ → Bool
flag flags i = slice_index_or flags i false

-- the directories that have a flag
abbrev pub flagged : List Bool → List (List PairPart) → List (List PairPart)
flagged [] gs = []
flagged (f ∷ fs) [] = []
flagged (f ∷ fs) (g ∷ gs) = cond f (g ∷ flagged fs gs) (flagged fs gs)

-- each directory that begins at one of these pairs has a flag
abbrev pub AreFlagged : List Bool → List (List PairPart) → List Pair → Type 0
AreFlagged flags gs named = (i : ℕ) (g : List PairPart) → slice_get gs i ≡ Some g → begins_in named g ≡ true → flag flags i ≡ true

-- The directory of a number gets a flag and waits, unless it has one.
abbrev pub FlagsOne : Option ℕ → List Bool → List Bool → List ℕ → List ℕ → Type 0
FlagsOne None flags new waiting more = (new ≡ flags) × (more ≡ waiting)
FlagsOne (Some i) flags new waiting more =
    ((flag flags i ≡ true) × (new ≡ flags) × (more ≡ waiting))
    ⊎ ((flag flags i ≡ false) × (new ≡ slice_set flags i true) × (more ≡ waiting ++ i ∷ []))

-- Those that begin at some pairs get flags, and the new ones wait.
pub record FlagsNamed (gs : List (List PairPart)) (named : List Pair) (flags new : List Bool) (waiting more : List ℕ) : Type 0 where
  pub len : length new ≡ length flags
  pub stays : (i : ℕ) → flag flags i ≡ true → flag new i ≡ true
  pub only : (i : ℕ) → flag new i ≡ true
      → (flag flags i ≡ true) ⊎ (Contains more i × ((g : List PairPart) × (slice_get gs i ≡ Some g) × (begins_in named g ≡ true)))
  pub kept : (i : ℕ) → Contains waiting i → Contains more i
  pub waits : (i : ℕ) → Contains more i → Contains waiting i ⊎ (flag new i ≡ true)
  pub all : AreFlagged new gs named
  pub less : 2 * unmarked new + length more ≤ 2 * unmarked flags + length waiting

-- Directories with flags are reached, and those that they name have flags, but for those that wait.
pub record AreReaching (gs : List (List PairPart)) (flags : List Bool) (waiting : List ℕ) : Type 0 where
  pub len : length flags ≡ length gs
  pub reached : (i : ℕ) → flag flags i ≡ true
      → (g : List PairPart) × (slice_get gs i ≡ Some g) × ((n : ℕ) × (begins_in (named_within gs n) g ≡ true))
  pub waits : (i : ℕ) → Contains waiting i → flag flags i ≡ true
  pub closed : (i : ℕ) (g : List PairPart) → slice_get gs i ≡ Some g → flag flags i ≡ true
      → Contains waiting i ⊎ AreFlagged flags gs (pairs_named g)
  pub root : AreFlagged flags gs (root ∷ [])
