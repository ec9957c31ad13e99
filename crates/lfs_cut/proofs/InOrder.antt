-- The blocks of the rows, in the order of the parts that they are for, are all blocks in order.
use Rattle.std.proofs.Common.{◌≡◌, ℕ, ◌≤◌, ◌&&◌, Bool, true, false, cond, List, [], ◌∷◌, ◌++◌, length, map, refl, ap, sym}
use Rattle.std.proofs.Common.{◌∙◌, arith, inl, inr, Option}
use Rattle.std.specs.Prelude.{All, Contains, if◌then◌else◌, filter, flat_map, count_by, nat_lt}
use Rattle.std.proofs.lemmas.List.Elements.{All-head, All-tail, All-weaker, All-contains_itself}
use Rattle.std.proofs.lemmas.List.Sums.{sum_by-cons}
use Rattle.lfs_meta.specs.Body.{Pair}
use Rattle.lfs_fs.specs.Directory.{Part, thread}
use Rattle.lfs_fs.specs.Pair.{same_pair}
use Rattle.lfs_fs.specs.Volume.{Volume}
use Rattle.lfs_fs.specs.Weight.{superblock_weight}
use Rattle.lfs_fs.proofs.ContainsLemmas.{contains_cases}
use Rattle.lfs_fs.proofs.CountLemmas.{element_le}
use Rattle.lfs_command.specs.Cut.{room}
use Rattle.lfs_command.specs.Ordered.{blocks_chosen, blocks_of_pairs, leader_first, overflowing, overflowing_led}
use Rattle.lfs_law.specs.PartsCut.{runs_by}
use Rattle.lfs_law.proofs.Decided.{same_pair_decides}
use Rattle.lfs_cut.specs.declared.overflow.Overflow.{Overflow}
use Rattle.lfs_cut.specs.Chosen.{PairRow, chosen_for, overflow_for, row_blocks}
use Rattle.lfs_cut.specs.Overflow.{overflows_of}
use Rattle.lfs_cut.proofs.ChosenPairs.{AreRowsOf, few_rows, filter_by, overflow}
use Rattle.lfs_law.proofs.Leaders.{leader_maps}

-- ---- the parts that overflow

one_mapped : (f : Part → Overflow) (p : Part) (t u : Bool) (gs : List Overflow) (qs : List Part) → gs ≡ map f qs
    → (if t && u then f p ∷ [] else []) ++ gs ≡ map f (if t then (if u then p ∷ qs else qs) else qs)
one_mapped f p true true gs qs are = ap (λ (hs : List Overflow). f p ∷ hs) are
one_mapped f p true false gs qs are = are
one_mapped f p false u gs qs are = are

overflows_are : (bytes superblock : ℕ) (ps : List Part)
    → overflows_of bytes superblock ps ≡ map (overflow bytes superblock)
    (filter (λ p. nat_lt 1 (length (runs_by bytes superblock p))) (filter (λ p. p.dirty) ps))
overflows_are bytes superblock [] = refl
overflows_are bytes superblock (p ∷ ps) =
    one_mapped (overflow bytes superblock) p p.dirty (nat_lt 1 (length (runs_by bytes superblock p))) (overflows_of bytes superblock ps)
    (filter (λ q. nat_lt 1 (length (runs_by bytes superblock q))) (filter (λ q. q.dirty) ps)) (overflows_are bytes superblock ps)
    ∙ ap (map (overflow bytes superblock)) (sym (filter_by (λ q. nat_lt 1 (length (runs_by bytes superblock q))) p p.dirty ps))

-- ---- the row of a part

row_found : (rows : List PairRow) (r : PairRow) (p : Part) → Contains rows r → same_pair p.pair r.0 ≡ true
    → count_by (λ x. same_pair p.pair x.0) rows ≤ 1 → chosen_for rows p ≡ r.1
row_found [] r p there same few = absurd (none_there there)
  where
    none_there : {X : Type 0} {x : X} → Contains [] x → ⊥
    none_there there = omega arith
row_found (x ∷ rows) r p there same few = elim (contains_cases x rows r there) [
  | inl here ↦
      ap (λ (t : Bool). if t then x.1 else chosen_for rows p) (ap (λ (y : PairRow). same_pair p.pair y.0) (sym here) ∙ same)
      ∙ ap (λ (y : PairRow). y.1) (sym here)
  | inr later ↦
      (let f : PairRow → ℕ = λ y. cond {A = ℕ} (same_pair p.pair y.0) 1 0 in
      let one : f r ≡ 1 = ap (λ (t : Bool). cond {A = ℕ} t 1 0) same in
      let none : f x ≡ 0 = omega (arith, few, one, element_le f rows r later, sum_by-cons f x rows) in
      ap (λ (t : Bool). if t then x.1 else chosen_for rows p) (out (same_pair p.pair x.0) none)
      ∙ row_found rows r p later same (omega (arith, few, sum_by-cons f x rows)))
]
  where
    out : (t : Bool) → cond {A = ℕ} t 1 0 ≡ 0 → t ≡ false
    out true is = absurd (omega (arith, is))
    out false is = refl

-- ---- row by row

-- the pairs that are chosen for a part are those of a row
abbrev IsFoundFor : List PairRow → PairRow → Type 0
IsFoundFor rows r = (p : Part) → p.pair ≡ r.0 → chosen_for rows p ≡ r.1

rows_in_turn : (all : List PairRow) (bytes superblock : ℕ) (rows : List PairRow) (ps : List Part)
    → map overflow_for rows ≡ map (overflow bytes superblock) ps → All (IsFoundFor all) rows
    → blocks_chosen (chosen_for all) ps ≡ flat_map row_blocks rows
rows_in_turn all bytes superblock [] [] same found = refl
rows_in_turn all bytes superblock [] (p ∷ ps) same found = cc
rows_in_turn all bytes superblock (r ∷ rows) [] same found = cc
rows_in_turn all bytes superblock (r ∷ rows) (p ∷ ps) same found =
    let first : overflow_for r ≡ overflow bytes superblock p = cc in
    let others : map overflow_for rows ≡ map (overflow bytes superblock) ps = cc in
    let here = All-head (IsFoundFor all) r rows found p (sym (ap (λ (g : Overflow). g.pair) first)) in
    ap (λ (qs : List Pair). blocks_of_pairs qs ++ blocks_chosen (chosen_for all) ps) here
    ∙ ap (λ (bs : List ℕ). row_blocks r ++ bs) (rows_in_turn all bytes superblock rows ps others (All-tail (IsFoundFor all) r rows found))

-- ---- of an outline

led_rows : (v : Volume) (bytes superblock : ℕ) (leading : Option Pair) (blocks : List ℕ) (rows : List PairRow)
    → (of_v : AreRowsOf v bytes superblock leading blocks rows)
    → map overflow_for rows ≡ map (overflow bytes superblock) (overflowing_led leading v)
led_rows v bytes superblock leading blocks rows of_v =
    of_v.rows_are.for_each ∙ of_v.led
    ∙ ap (λ (n : ℕ). leader_first (λ (g : Overflow). g.pair) leading (overflows_of n superblock (thread v.directories))) of_v.bytes_is
    ∙ ap (λ (n : ℕ). leader_first (λ (g : Overflow). g.pair) leading (overflows_of (room v) n (thread v.directories))) of_v.superblock_is
    ∙ ap (leader_first (λ (g : Overflow). g.pair) leading) (overflows_are (room v) (superblock_weight v.attributes) (thread v.directories))
    ∙ leader_maps (overflow (room v) (superblock_weight v.attributes)) (λ (g : Overflow). g.pair) leading (overflowing v)
    ∙ ap (λ (n : ℕ). map (overflow (room v) n) (overflowing_led leading v)) (sym of_v.superblock_is)
    ∙ ap (λ (n : ℕ). map (overflow n superblock) (overflowing_led leading v)) (sym of_v.bytes_is)

pub chosen_in_order : (v : Volume) (bytes superblock : ℕ) (leading : Option Pair) (blocks : List ℕ) (rows : List PairRow)
    → AreRowsOf v bytes superblock leading blocks rows
    → blocks_chosen (chosen_for rows) (overflowing_led leading v) ≡ blocks
chosen_in_order v bytes superblock leading blocks rows of_v =
    rows_in_turn rows bytes superblock rows (overflowing_led leading v) (led_rows v bytes superblock leading blocks rows of_v)
    (All-weaker (Contains rows) (IsFoundFor rows) found rows (All-contains_itself rows))
    ∙ of_v.rows_are.in_order
  where
    found : (r : PairRow) → Contains rows r → IsFoundFor rows r
    found r there p is = row_found rows r p there ((same_pair_decides p.pair r.0).1 is)
        (few_rows bytes superblock (thread v.directories) of_v.gs rows of_v.order of_v.rows_are.for_each p.pair (of_v.once p.pair))
