-- Areas of blocks by themselves, to which nothing leads that was looked at (own).
use Rattle.std.specs.Prelude.{◌≡◌, ◌<◌, ◌⊎◌, ◌&&◌, ℕ, not, Bool, true, false, List, [], ◌∷◌, ◌++◌, All, Option, None, Some, is_some, flat_map, map, slice_index_or, slice_set}
use Rattle.std.specs.List.{filter, range_with_len}
use Rattle.lfs_block.specs.Disk.{Disk}
use Rattle.lfs_meta.specs.Body.{Pair, StoredBody, Inline, Chain, Directory_at}
use Rattle.lfs_meta.specs.Entry.{StoredEntry}
use Rattle.lfs_meta.specs.LiveBlock.{stored_part_of}
use Rattle.lfs_meta.specs.Part.{StoredPart}
use Rattle.lfs_meta.specs.declared.tail.Tail.{Tail}
use Rattle.lfs_meta.specs.declared.tail.Tail.TheVariants.{End, Soft, Hard}
use Rattle.lfs_survey.specs.Looking.{is_open}
use Rattle.lfs_survey.specs.Survey.{BeginIn, behind_areas, tails_behind, unlooked}
use Rattle.lfs_survey.specs.declared.area.Area.{Area}

-- a block as both blocks of a pair
abbrev pub alone : ℕ → Pair
alone b = (b, b)

-- a pair is open, and holds a part
abbrev pub is_lone : Disk → List Bool → Pair → Bool
is_lone d looked pair = is_open looked pair && is_some (stored_part_of d pair)

-- the blocks that weren't looked at and hold parts by themselves, of the first so many
abbrev pub lone_pairs : Disk → List Bool → ℕ → List Pair
lone_pairs d looked n = filter (is_lone d looked) (map alone (range_with_len 0 n))

-- the pair that a body leads to
abbrev pub body_pairs : StoredBody → List Pair
body_pairs (Inline bytes) = []
body_pairs (Chain head size) = []
body_pairs (Directory_at first second) = (first, second) ∷ []

-- the pair of a tail
abbrev pub tail_pairs : Tail → List Pair
tail_pairs End = []
tail_pairs (Soft first second) = (first, second) ∷ []
tail_pairs (Hard first second) = (first, second) ∷ []

-- those that entries lead to
abbrev pub entries_pairs : List StoredEntry → List Pair
entries_pairs es = flat_map (λ e. body_pairs e.body) es

-- the pairs that a part names, by its entries and its tail
abbrev pub part_pairs : StoredPart → List Pair
part_pairs p = entries_pairs p.entries ++ tail_pairs p.tail

-- those of a part, where there is one
abbrev pub held_pairs : Option StoredPart → List Pair
held_pairs None = []
held_pairs (Some p) = part_pairs p

-- a table in which the blocks of pairs are marked
abbrev pub marked_by : List Bool → List Pair → List Bool
marked_by table [] = table
marked_by table (p ∷ ps) = marked_by (slice_set (slice_set table p.0 true) p.1 true) ps

-- the blocks that what a pair holds names are marked, but for its own
abbrev pub marked_of : Disk → List Bool → Pair → List Bool
marked_of d table p = slice_set (marked_by table (held_pairs (stored_part_of d p))) p.0 (slice_index_or table p.0 true)

-- the same of several pairs
abbrev pub marked_of_all : Disk → List Bool → List Pair → List Bool
marked_of_all d table [] = table
marked_of_all d table (p ∷ ps) = marked_of_all d (marked_of d table p) ps

-- the pairs whose first block isn't marked
abbrev pub unmarked_pairs : List Bool → List Pair → List Pair
unmarked_pairs table ps = filter (λ p. not (slice_index_or table p.0 true)) ps

-- the blocks by themselves that no other one names
abbrev pub unnamed_pairs : Disk → List Bool → List Pair
unnamed_pairs d looked = unmarked_pairs (marked_of_all d (unlooked d) (lone_pairs d looked d.count)) (lone_pairs d looked d.count)

-- a pair holds this part, or none
abbrev pub HoldsAs : Disk → Pair → Option (Pair × StoredPart) → Type 0
HoldsAs d pair None = stored_part_of d pair ≡ None
HoldsAs d pair (Some p) = stored_part_of d pair ≡ Some p.1

-- Areas, each of which begins at the first open pair of these and, after them, of those to which the thread goes on after the areas before
-- it; none of these is left open.
pub record AreAlong (d : Disk) (before after : List Bool) (starts : List Pair) (areas : List Area) : Type 0 where
  pub begin : BeginIn d before starts areas
  pub looked : after ≡ behind_areas before areas
  pub closed : All (λ p. is_open after p ≡ false) (starts ++ tails_behind areas)

-- Areas of blocks by themselves: first from those on that no other one names, since they lead to the others as whole pairs; then from
-- those that are left.
pub record AreLone (d : Disk) (before after : List Bool) (areas : List Area) : Type 0 where
  pub first : List Area
  pub later : List Area
  pub between : List Bool
  pub are : areas ≡ first ++ later
  pub unnamed : AreAlong d before between (unnamed_pairs d before) first
  pub left : AreAlong d between after (lone_pairs d before d.count) later

-- each block of the image was looked at, or holds no part by itself
abbrev pub NoneIsLeft : Disk → List Bool → Type 0
NoneIsLeft d looked = (b : ℕ) → b < d.count → (slice_index_or looked b true ≡ true) ⊎ (stored_part_of d (alone b) ≡ None)
