-- Rows for the parts that overflow are enough for them, and use their blocks once.
use Rattle.std.proofs.Common.{◌≡◌, ℕ, ◌+◌, ◌-◌, ◌*◌, ◌≤◌, ◌&&◌, Bool, true, false, cond, List, [], ◌∷◌, ◌++◌, length, map, refl, ap, sym}
use Rattle.std.proofs.Common.{◌∙◌, subst, arith, append-nil, Option}
use Rattle.std.specs.Prelude.{All, Contains, IsPermutation, filter, if◌then◌else◌, flat_map, count_by, sum_by, nat_lt}
use Rattle.std.proofs.lemmas.Bool.Decides.{nat_tests}
use Rattle.std.proofs.lemmas.List.Concat.{length-flat_map}
use Rattle.std.proofs.lemmas.List.Elements.{All-head, All-tail, All-weaker, All-contains_itself}
use Rattle.std.proofs.lemmas.List.Sorted.{sum_by-IsPermutation}
use Rattle.std.proofs.lemmas.List.Sums.{sum_by-cons, sum_by-append, sum_by-le-sum_by}
use Rattle.lfs_meta.specs.Body.{Pair}
use Rattle.lfs_meta.specs.Runs.{later_runs}
use Rattle.lfs_fs.specs.Pair.{same_pair}
use Rattle.lfs_fs.specs.Entry.{Entry}
use Rattle.lfs_fs.specs.Weight.{superblock_weight}
use Rattle.lfs_fs.specs.Directory.{Part, Directory, thread}
use Rattle.lfs_fs.specs.Volume.{Volume}
use Rattle.lfs_fs.specs.Uses.{times}
use Rattle.lfs_fs.proofs.PairLemmas.{same_pair-symmetric}
use Rattle.lfs_fs.proofs.CountLemmas.{element_le}
use Rattle.lfs_cut.specs.declared.overflow.Overflow.{Overflow}
use Rattle.lfs_command.specs.Cut.{room, runs, new_pairs, HasEnough, new_pair_uses}
use Rattle.lfs_command.specs.Need.{dirty_parts, part_blocks}
use Rattle.lfs_command.specs.Ordered.{leader_first, pair_blocks}
use Rattle.lfs_law.specs.PartsCut.{runs_by}
use Rattle.lfs_cut.specs.Overflow.{is_overfull, overflow_of, overflows_of}
use Rattle.lfs_cut.specs.Chosen.{PairRow, chosen_for, row_blocks, overflow_for, ArePairRows, HasPairsOnce}
use Rattle.lfs_law.proofs.Decided.{same_pair_decides}
use Rattle.lfs_law.proofs.OutlineRoom.{sum_over}
use Rattle.lfs_law.proofs.NamedBlocks.{sum_zero, times_flat}
use Rattle.lfs_law.proofs.CommandsWritten.{sum_both}
use Rattle.lfs_law.proofs.Needs.{sum_set}
use Rattle.lfs_law.proofs.Leaders.{leader_permutes}
use Rattle.lfs_cut.proofs.SumLemmas.{sum_same, sum_flat, sum_counted, sum_one}

-- ---- all rows for a pair

abbrev own : Pair → PairRow → List Pair
own k r = if same_pair k r.0 then r.1 else []

abbrev all_for : List PairRow → Pair → List Pair
all_for rows k = flat_map (own k) rows

none_for : (k : Pair) (rows : List PairRow) → count_by (λ r. same_pair k r.0) rows ≡ 0 → all_for rows k ≡ []
none_for k [] none = refl
none_for k (r ∷ rows) none = by (same_pair k r.0) refl (none_for k rows)
  where
    by : (t : Bool) → same_pair k r.0 ≡ t → (count_by (λ x. same_pair k x.0) rows ≡ 0 → all_for rows k ≡ [])
        → (if t then r.1 else []) ++ all_for rows k ≡ []
    by true is rest = absurd (omega (
      arith,
      none,
      sum_by-cons (λ (x : PairRow). cond {A = ℕ} (same_pair k x.0) 1 0) r rows,
      ap (λ (t : Bool). cond {A = ℕ} t 1 0) is,
    ))
    by false is rest = rest (omega (arith, none, sum_by-cons (λ (x : PairRow). cond {A = ℕ} (same_pair k x.0) 1 0) r rows))

first_is_all : (p : Part) (rows : List PairRow) → count_by (λ r. same_pair p.pair r.0) rows ≤ 1 → chosen_for rows p ≡ all_for rows p.pair
first_is_all p [] few = refl
first_is_all p (r ∷ rows) few = by (same_pair p.pair r.0) refl (first_is_all p rows)
  where
    by : (t : Bool) → same_pair p.pair r.0 ≡ t → (count_by (λ x. same_pair p.pair x.0) rows ≤ 1 → chosen_for rows p ≡ all_for rows p.pair)
        → (if t then r.1 else chosen_for rows p) ≡ (if t then r.1 else []) ++ all_for rows p.pair
    by true is rest =
        let none : count_by (λ x. same_pair p.pair x.0) rows ≡ 0 =
        omega (
          arith,
          few,
          sum_by-cons (λ (x : PairRow). cond {A = ℕ} (same_pair p.pair x.0) 1 0) r rows,
          ap (λ (t : Bool). cond {A = ℕ} t 1 0) is,
        ) in
        sym (append-nil r.1) ∙ ap (λ (qs : List Pair). r.1 ++ qs) (sym (none_for p.pair rows none))
    by false is rest = rest (omega (arith, few, sum_by-cons (λ (x : PairRow). cond {A = ℕ} (same_pair p.pair x.0) 1 0) r rows))

-- ---- a sum over rows is one over the parts that overflow

one_overflow : (f : Overflow → ℕ) (g : Overflow) (t : Bool) → sum_by f (if t then g ∷ [] else []) ≡ (if t then f g else 0)
one_overflow f g true = omega (arith, sum_by-cons f g [])
one_overflow f g false = refl

abbrev pub overflow : ℕ → ℕ → Part → Overflow
overflow bytes superblock p = record { pair = p.pair; len = length (runs_by bytes superblock p) - 1 }

over_parts : (f : Overflow → ℕ) (bytes superblock : ℕ) (ps : List Part) (gs : List Overflow) (rows : List PairRow)
    → IsPermutation (overflows_of bytes superblock ps) gs → map overflow_for rows ≡ gs
    → sum_by (λ r. f (overflow_for r)) rows ≡ sum_by (λ p. sum_by f (overflow_of bytes superblock p)) ps
over_parts f bytes superblock ps gs rows same is =
    sym (sum_over (λ (r : PairRow). f (overflow_for r)) f overflow_for (λ r. refl) rows) ∙ ap (sum_by f) is
    ∙ sum_by-IsPermutation f (overflows_of bytes superblock ps) gs same ∙ sum_flat f (overflow_of bytes superblock) ps

-- the rows of a pair are few, as the parts are
pub few_rows : (bytes superblock : ℕ) (ps : List Part) (gs : List Overflow) (rows : List PairRow)
    → IsPermutation (overflows_of bytes superblock ps) gs
    → map overflow_for rows ≡ gs → (k : Pair)
    → count_by (λ p. same_pair p.pair k) ps ≤ 1 → count_by (λ r. same_pair k r.0) rows ≤ 1
few_rows bytes superblock ps gs rows same is k once =
    let f : Overflow → ℕ = λ g. cond {A = ℕ} (same_pair k g.pair) 1 0 in
    let all : count_by (λ (r : PairRow). same_pair k r.0) rows ≡ sum_by (λ p. sum_by f (overflow_of bytes superblock p)) ps =
    over_parts f bytes superblock ps gs rows same is in
    let le : sum_by (λ p. sum_by f (overflow_of bytes superblock p)) ps ≤ count_by (λ p. same_pair p.pair k) ps =
    sum_by-le-sum_by (λ p. sum_by f (overflow_of bytes superblock p)) (λ p. cond {A = ℕ} (same_pair p.pair k) 1 0) ps
    (λ p. omega (
      arith,
      one_overflow f (overflow bytes superblock p) (is_overfull bytes superblock p),
      at_most (is_overfull bytes superblock p) (same_pair k p.pair),
      ap (λ (t : Bool). cond {A = ℕ} t 1 0) (same_pair-symmetric k p.pair),
    )) in
    omega (arith, all, le, once)
  where
    at_most : (t u : Bool) → cond {A = ℕ} t (cond {A = ℕ} u 1 0) 0 ≤ cond {A = ℕ} u 1 0
    at_most true u = omega arith
    at_most false u = omega arith

-- ---- there are as many pairs as the part has runs behind the first

own_length : (k : Pair) (r : PairRow) (t : Bool) → length (if t then r.1 else []) ≡ cond {A = ℕ} t (length r.1) 0
own_length k r true = refl
own_length k r false = refl

overflow_len : (p : Part) (n : ℕ) → p.dirty ≡ true → cond {A = ℕ} (p.dirty && nat_lt 1 n) (n - 1) 0 ≡ n - 1
overflow_len p n set = ap (λ (t : Bool). cond {A = ℕ} (t && nat_lt 1 n) (n - 1) 0) set ∙ by (nat_lt 1 n) refl
  where
    by : (t : Bool) → nat_lt 1 n ≡ t → cond {A = ℕ} t (n - 1) 0 ≡ n - 1
    by true is = refl
    by false is = grind (arith, nat_tests)

enough_for : (bytes superblock : ℕ) (ps : List Part) (gs : List Overflow) (rows : List PairRow)
    → IsPermutation (overflows_of bytes superblock ps) gs
    → map overflow_for rows ≡ gs → (p : Part)
    → Contains ps p → count_by (λ q. same_pair q.pair p.pair) ps ≤ 1 → p.dirty ≡ true
    → length (all_for rows p.pair) ≡ length (runs_by bytes superblock p) - 1
enough_for bytes superblock ps gs rows same is p there once set =
    let f : Overflow → ℕ = λ g. cond {A = ℕ} (same_pair p.pair g.pair) g.len 0 in
    let own_pair : same_pair p.pair p.pair ≡ true = (same_pair_decides p.pair p.pair).1 refl in
    length-flat_map (own p.pair) rows
    ∙ sum_same (λ (r : PairRow). length (own p.pair r)) (λ (r : PairRow). f (overflow_for r)) rows
    (λ r. own_length p.pair r (same_pair p.pair r.0))
    ∙ over_parts f bytes superblock ps gs rows same is
    ∙ sum_one (λ (q : Part). sum_by f (overflow_of bytes superblock q)) (λ (q : Part). same_pair q.pair p.pair) ps p there once own_pair
    (λ q other. one_overflow f (overflow bytes superblock q) (is_overfull bytes superblock q)
    ∙ ap (λ (t : Bool). cond {A = ℕ} (is_overfull bytes superblock q) (cond {A = ℕ} t (overflow bytes superblock q).len 0) 0)
    (same_pair-symmetric p.pair q.pair ∙ other) ∙ zero (is_overfull bytes superblock q))
    ∙ one_overflow f (overflow bytes superblock p) (is_overfull bytes superblock p)
    ∙ ap (λ (t : Bool). cond {A = ℕ} (is_overfull bytes superblock p) (cond {A = ℕ} t (length (runs_by bytes superblock p) - 1) 0) 0) own_pair
    ∙ overflow_len p (length (runs_by bytes superblock p)) set
  where
    zero : (t : Bool) → cond {A = ℕ} t 0 0 ≡ 0
    zero true = refl
    zero false = refl

-- ---- each block is used where it stands

-- how often pairs use a block
abbrev pairs_use : ℕ → List Pair → ℕ
pairs_use b qs = sum_by (λ q. times b (pair_blocks q)) qs

-- how many parts that are set have a pair
abbrev set_with : List Part → Pair → ℕ
set_with ps k = count_by (λ p. p.dirty && same_pair p.pair k) ps

abbrev set_use : ℕ → List PairRow → Part → ℕ
set_use b rows p = pairs_use b (if p.dirty then all_for rows p.pair else [])

no_rows : (b : ℕ) (t : Bool) → pairs_use b (if t then [] else []) ≡ 0
no_rows b true = refl
no_rows b false = refl

one_row : (b : ℕ) (set same : Bool) (own_pairs others : List Pair) → pairs_use b
    (if set then (if same then own_pairs else []) ++ others else [])
    ≡ cond {A = ℕ} (set && same) (pairs_use b own_pairs) 0 + pairs_use b (if set then others else [])
one_row b true true own_pairs others = sum_by-append (λ (q : Pair). times b (pair_blocks q)) own_pairs others
one_row b true false own_pairs others = omega arith
one_row b false same own_pairs others = refl

all_use : (b : ℕ) (ps : List Part) (rows : List PairRow) → All (λ r. set_with ps r.0 ≡ 1) rows
    → sum_by (set_use b rows) ps ≡ sum_by (λ r. pairs_use b r.1) rows
all_use b ps [] one = sum_zero (set_use b []) ps (λ p there. no_rows b p.dirty)
all_use b ps (r ∷ rows) one =
    let here : set_with ps r.0 ≡ 1 = All-head (λ (x : PairRow). set_with ps x.0 ≡ 1) r rows one in
    let rest : sum_by (set_use b rows) ps ≡ sum_by (λ (x : PairRow). pairs_use b x.1) rows =
    all_use b ps rows (All-tail (λ (x : PairRow). set_with ps x.0 ≡ 1) r rows one) in
    let first : Part → ℕ = λ p. cond {A = ℕ} (p.dirty && same_pair p.pair r.0) (pairs_use b r.1) 0 in
    let split : sum_by (set_use b (r ∷ rows)) ps ≡ sum_by first ps + sum_by (set_use b rows) ps =
    sum_same (set_use b (r ∷ rows)) (λ (p : Part). first p + set_use b rows p) ps
    (λ p. one_row b p.dirty (same_pair p.pair r.0) r.1 (all_for rows p.pair)) ∙ sum_both first (set_use b rows) ps in
    let once : sum_by first ps ≡ 1 * pairs_use b r.1 = sum_counted (λ (p : Part). p.dirty && same_pair p.pair r.0) (pairs_use b r.1) ps
    ∙ ap (λ (n : ℕ). n * pairs_use b r.1) here in
    omega (arith, split, once, rest, sum_by-cons (λ (x : PairRow). pairs_use b x.1) r rows)

-- a row is for one part that is set
for_one : (bytes superblock : ℕ) (ps : List Part) (gs : List Overflow) (rows : List PairRow)
    → IsPermutation (overflows_of bytes superblock ps) gs
    → map overflow_for rows ≡ gs
    → ((k : Pair) → count_by (λ p. same_pair p.pair k) ps ≤ 1) → All (λ r. set_with ps r.0 ≡ 1) rows
for_one bytes superblock ps gs rows same is once =
    let f : Overflow → ℕ = λ g. 1 - set_with ps g.pair in
    let none : sum_by (λ (r : PairRow). f (overflow_for r)) rows ≡ 0 =
    over_parts f bytes superblock ps gs rows same is
    ∙ sum_zero (λ (p : Part). sum_by f (overflow_of bytes superblock p)) ps
    (λ p there. one_overflow f (overflow bytes superblock p) (is_overfull bytes superblock p)
    ∙ set_there p there p.dirty (nat_lt 1 (length (runs_by bytes superblock p))) refl) in
    All-weaker (Contains rows) (λ r. set_with ps r.0 ≡ 1)
    (λ r there. omega (arith, none, element_le (λ (x : PairRow). f (overflow_for x)) rows r there, set_are_few r.0, once r.0)) rows
    (All-contains_itself rows)
  where
    set_there : (p : Part) → Contains ps p → (t u : Bool) → p.dirty ≡ t → cond {A = ℕ} (t && u) (1 - set_with ps p.pair) 0 ≡ 0
    set_there p there true true set =
        let here : cond {A = ℕ} (p.dirty && same_pair p.pair p.pair) 1 0 ≡ 1 =
        ap (λ (t : Bool). cond {A = ℕ} (t && same_pair p.pair p.pair) 1 0) set
        ∙ ap (λ (t : Bool). cond {A = ℕ} t 1 0) ((same_pair_decides p.pair p.pair).1 refl) in
        omega (arith, here, element_le (λ (q : Part). cond {A = ℕ} (q.dirty && same_pair q.pair p.pair) 1 0) ps p there)
    set_there p there true false set = refl
    set_there p there false u set = refl

    fewer : (t u : Bool) → cond {A = ℕ} (t && u) 1 0 ≤ cond {A = ℕ} u 1 0
    fewer true u = omega arith
    fewer false u = omega arith

    set_are_few : (k : Pair) → set_with ps k ≤ count_by (λ p. same_pair p.pair k) ps
    set_are_few k =
        sum_by-le-sum_by (λ (p : Part). cond {A = ℕ} (p.dirty && same_pair p.pair k) 1 0)
        (λ (p : Part). cond {A = ℕ} (same_pair p.pair k) 1 0) ps (λ p. fewer p.dirty (same_pair p.pair k))

row_uses : (b : ℕ) (blocks : List ℕ) (rows : List PairRow) → flat_map row_blocks rows ≡ blocks
    → sum_by (λ r. pairs_use b r.1) rows ≡ times b blocks
row_uses b blocks rows is =
    sum_same (λ (r : PairRow). pairs_use b r.1) (λ (r : PairRow). times b (row_blocks r)) rows (λ r. sym (times_flat b pair_blocks r.1))
    ∙ sym (times_flat b row_blocks rows) ∙ ap (times b) is

-- ---- of an outline

later_length : (rs : List (List Entry)) → length (later_runs rs) ≡ length rs - 1
later_length [] = refl
later_length (run ∷ rs) = omega arith

one_counted : (g : Overflow) (p : Part) (t u : Bool) (gs : List Overflow) (qs : List Part) → length gs ≡ length qs
    → length ((if t && u then g ∷ [] else []) ++ gs) ≡ length (if t then (if u then p ∷ qs else qs) else qs)
one_counted g p true true gs qs same = omega (arith, same)
one_counted g p true false gs qs same = same
one_counted g p false u gs qs same = same

pub filter_by : (f : Part → Bool) (p : Part) (t : Bool) (ps : List Part) → filter f
    (if t then p ∷ filter (λ q. q.dirty) ps else filter (λ q. q.dirty) ps)
    ≡ (if t then (if f p then p ∷ filter f (filter (λ q. q.dirty) ps) else filter f (filter (λ q. q.dirty) ps)) else filter f
    (filter (λ q. q.dirty) ps))
filter_by f p true ps = refl
filter_by f p false ps = refl

overflow_many : (bytes superblock : ℕ) (ps : List Part)
    → length (overflows_of bytes superblock ps) ≡ length (filter (λ p. nat_lt 1 (length (runs_by bytes superblock p)))
    (filter (λ p. p.dirty) ps))
overflow_many bytes superblock [] = refl
overflow_many bytes superblock (p ∷ ps) =
    one_counted (overflow bytes superblock p) p p.dirty (nat_lt 1 (length (runs_by bytes superblock p))) (overflows_of bytes superblock ps)
    (filter (λ q. nat_lt 1 (length (runs_by bytes superblock q))) (filter (λ q. q.dirty) ps)) (overflow_many bytes superblock ps)
    ∙ ap (λ (qs : List Part). length qs) (sym (filter_by (λ q. nat_lt 1 (length (runs_by bytes superblock q))) p p.dirty ps))

-- as many parts of an outline overflow as are set and have more than one run
pub overflow_count : (v : Volume) (bytes superblock : ℕ) → bytes ≡ room v → superblock ≡ superblock_weight v.attributes
    → length (overflows_of bytes superblock (thread v.directories)) ≡ length (filter (λ p. nat_lt 1 (length (runs v p))) (dirty_parts v))
overflow_count v bytes superblock is weighs =
    ap (λ (n : ℕ). length (overflows_of n superblock (thread v.directories))) is
    ∙ ap (λ (n : ℕ). length (overflows_of (room v) n (thread v.directories))) weighs
    ∙ overflow_many (room v) (superblock_weight v.attributes) (thread v.directories)

one_need : (t : Bool) (n : ℕ) → cond {A = ℕ} (t && nat_lt 1 n) (2 * (n - 1)) 0 ≡ (if t then 2 * (n - 1) else 0)
one_need true n = by (nat_lt 1 n) refl
  where
    by : (u : Bool) → nat_lt 1 n ≡ u → cond {A = ℕ} u (2 * (n - 1)) 0 ≡ 2 * (n - 1)
    by true is = refl
    by false is = grind (arith, nat_tests)
one_need false n = refl

-- they need as many blocks as the parts that are set
pub overflow_need : (v : Volume) (bytes superblock : ℕ) (gs : List Overflow) → bytes ≡ room v → superblock ≡ superblock_weight v.attributes
    → IsPermutation (overflows_of bytes superblock (thread v.directories)) gs
    → sum_by (λ g. 2 * g.len) gs ≡ sum_by (part_blocks v) (dirty_parts v)
overflow_need v bytes superblock gs is weighs same =
    sum_by-IsPermutation (λ (g : Overflow). 2 * g.len) (overflows_of bytes superblock (thread v.directories)) gs same
    ∙ ap (λ (n : ℕ). sum_by (λ (g : Overflow). 2 * g.len) (overflows_of n superblock (thread v.directories))) is
    ∙ ap (λ (n : ℕ). sum_by (λ (g : Overflow). 2 * g.len) (overflows_of (room v) n (thread v.directories))) weighs
    ∙ sum_flat (λ (g : Overflow). 2 * g.len) (overflow_of (room v) (superblock_weight v.attributes)) (thread v.directories)
    ∙ sum_same (λ (p : Part). sum_by (λ g. 2 * g.len) (overflow_of (room v) (superblock_weight v.attributes) p))
    (λ (p : Part). cond {A = ℕ} p.dirty (part_blocks v p) 0) (thread v.directories)
    (λ p. one_overflow (λ (g : Overflow). 2 * g.len) (overflow (room v) (superblock_weight v.attributes) p)
    (is_overfull (room v) (superblock_weight v.attributes) p) ∙ one_need p.dirty (length (runs v p)))
    ∙ sym (sum_set (part_blocks v) (thread v.directories))

-- rows for the parts of an outline that overflow, that of the leading pair first
pub record AreRowsOf (v : Volume) (bytes superblock : ℕ) (leading : Option Pair) (blocks : List ℕ) (rows : List PairRow) : Type 0 where
  pub gs : List Overflow
  pub bytes_is : bytes ≡ room v
  pub superblock_is : superblock ≡ superblock_weight v.attributes
  pub once : HasPairsOnce v
  pub led : gs ≡ leader_first (λ g. g.pair) leading (overflows_of bytes superblock (thread v.directories))
  pub order : IsPermutation (overflows_of bytes superblock (thread v.directories)) gs
  pub rows_are : ArePairRows gs blocks rows

pub in_order : (v : Volume) (bytes superblock : ℕ) (leading : Option Pair) (ds : List Directory) (found ordered gs : List Overflow)
    → ds ≡ v.directories → found ≡ overflows_of bytes superblock (thread ds)
    → ordered ≡ leader_first (λ g. g.pair) leading found → gs ≡ ordered
    → gs ≡ leader_first (λ g. g.pair) leading (overflows_of bytes superblock (thread v.directories))
in_order v bytes superblock leading ds found ordered gs all is led put =
    put ∙ led ∙ ap (leader_first (λ (g : Overflow). g.pair) leading) is
    ∙ ap (λ (es : List Directory). leader_first (λ (g : Overflow). g.pair) leading (overflows_of bytes superblock (thread es))) all

pub in_some_order : (bytes superblock : ℕ) (leading : Option Pair) (ps : List Part) (gs : List Overflow)
    → gs ≡ leader_first (λ g. g.pair) leading (overflows_of bytes superblock ps) → IsPermutation (overflows_of bytes superblock ps) gs
in_some_order bytes superblock leading ps gs led =
    subst (IsPermutation (overflows_of bytes superblock ps)) (sym led)
    (leader_permutes (λ (g : Overflow). g.pair) leading (overflows_of bytes superblock ps))

chosen_all : (v : Volume) (bytes superblock : ℕ) (leading : Option Pair) (blocks : List ℕ) (rows : List PairRow) → (of_v : AreRowsOf v bytes superblock leading blocks rows)
    → (p : Part) → chosen_for rows p ≡ all_for rows p.pair
chosen_all v bytes superblock leading blocks rows of_v p =
    first_is_all p rows (few_rows bytes superblock (thread v.directories) of_v.gs rows of_v.order of_v.rows_are.for_each p.pair
    (of_v.once p.pair))

pub chosen_enough : (v : Volume) (bytes superblock : ℕ) (leading : Option Pair) (blocks : List ℕ) (rows : List PairRow) → AreRowsOf v bytes superblock leading blocks rows
    → All (HasEnough (chosen_for rows) v) (thread v.directories)
chosen_enough v bytes superblock leading blocks rows of_v =
    All-weaker (Contains (thread v.directories)) (HasEnough (chosen_for rows) v)
    (λ p there set.
    ap (λ (qs : List Pair). length qs) (chosen_all v bytes superblock leading blocks rows of_v p)
    ∙ enough_for bytes superblock (thread v.directories) of_v.gs rows of_v.order of_v.rows_are.for_each p there (of_v.once p.pair) set
    ∙ ap (λ (n : ℕ). length (runs_by n superblock p) - 1) of_v.bytes_is
    ∙ ap (λ (n : ℕ). length (runs_by (room v) n p) - 1) of_v.superblock_is
    ∙ sym (later_length (runs v p)))
    (thread v.directories) (All-contains_itself (thread v.directories))

pub chosen_uses : (v : Volume) (bytes superblock : ℕ) (leading : Option Pair) (blocks : List ℕ) (rows : List PairRow) → AreRowsOf v bytes superblock leading blocks rows
    → (b : ℕ)
    → new_pair_uses (chosen_for rows) v b ≡ times b blocks
chosen_uses v bytes superblock leading blocks rows of_v b =
    let ps : List Part = thread v.directories in
    sum_same (λ (p : Part). pairs_use b (new_pairs (chosen_for rows) p)) (set_use b rows) ps
    (λ p. ap (λ (qs : List Pair). pairs_use b (if p.dirty then qs else [])) (chosen_all v bytes superblock leading blocks rows of_v p))
    ∙ all_use b ps rows (for_one bytes superblock ps of_v.gs rows of_v.order of_v.rows_are.for_each of_v.once)
    ∙ row_uses b blocks rows of_v.rows_are.in_order
