-- Pairs that are chosen for the new parts of an outline (own).
use Rattle.std.specs.Prelude.{◌≡◌, ℕ, ◌≤◌, List, [], ◌∷◌, if◌then◌else◌, length, map, flat_map, count_by}
use Rattle.lfs_meta.specs.Body.{Pair}
use Rattle.lfs_fs.specs.Pair.{same_pair}
use Rattle.lfs_fs.specs.Directory.{Part, thread}
use Rattle.lfs_fs.specs.Volume.{Volume}
use Rattle.lfs_command.specs.Ordered.{blocks_of_pairs}
use Rattle.lfs_cut.specs.declared.overflow.Overflow.{Overflow}

-- a part's pair, and those of its new parts
abbrev pub PairRow : Type 0
PairRow = Pair × List Pair

-- the pairs of the first row for a part's pair; none where there is no row
abbrev pub chosen_for : List PairRow → Part → List Pair
chosen_for [] p = []
chosen_for (r ∷ rows) p = if same_pair p.pair r.0 then r.1 else chosen_for rows p

-- the blocks of a row in order
abbrev pub row_blocks : PairRow → List ℕ
row_blocks r = blocks_of_pairs r.1

-- what a row is for
abbrev pub overflow_for : PairRow → Overflow
overflow_for r = record { pair = r.0; len = length r.1 }

-- rows for these parts, each with as many pairs as it needs, which are the blocks two by two in order
pub record ArePairRows (gs : List Overflow) (blocks : List ℕ) (rows : List PairRow) : Type 0 where
  pub for_each : map overflow_for rows ≡ gs
  pub in_order : flat_map row_blocks rows ≡ blocks

-- each pair is that of one part at most
abbrev pub HasPairsOnce : Volume → Type 0
HasPairsOnce v = (k : Pair) → count_by (λ p. same_pair p.pair k) (thread v.directories) ≤ 1
