-- Blocks that are marked, one after another.
use Rattle.std.proofs.Common.{◌≡◌, ℕ, ◌+◌, ◌<◌, ◌≤◌, ◌≢◌, Bool, true, false, List, [], ◌∷◌, ◌++◌, length, take, drop, get_or, zero, suc}
use Rattle.std.proofs.Common.{◌∙◌, arith, ap, sym, refl, cond, not, set}
use Rattle.std.specs.Prelude.{nat_eq, nat_lt, slice_index_or, if◌then◌else◌}
use Rattle.std.proofs.lemmas.Bool.Decides.{nat_tests}
use Rattle.std.proofs.lemmas.List.{get_or-set_other, get_or-set_same, get_or_default, get_or_past, length-set, take_more, take-append-drop}
use Rattle.std.proofs.lemmas.List.Sums.{sum_by-append, sum_by-set}
use Rattle.lfs_block.specs.declared.mount_fault.MountFault.{MountFault}
use Rattle.lfs_block.specs.declared.mount_fault.MountFault.TheVariants.{BlockRange, BlockTwice}
use Rattle.lfs_fs.specs.Uses.{times}
use Rattle.lfs_fs.specs.Used.{marked, AddsBlocks, AreMarked, AreMarkedBelow, AreTaken, CanBeMarked}

-- a block that is marked can't be marked
pub marked_twice : (used : List Bool) (b : ℕ) → slice_index_or used b false ≡ true → 2 ≤ marked used b + times b (b ∷ [])
marked_twice used b is = rw is (grind (arith, nat_tests))

pub times_more : (b i block : ℕ) (blocks : List ℕ) → i < length blocks → block ≡ get_or blocks i 0
    → times b (take (i + 1) blocks) ≡ times b (take i blocks) + times b (block ∷ [])
times_more b i block blocks within is = ap (times b) (take_more blocks i 0 within ∙ ap (λ x. take i blocks ++ x ∷ []) (sym is))
    ∙ sum_by-append _ (take i blocks) (block ∷ [])

pub times_take : (b i : ℕ) (blocks : List ℕ) → times b (take i blocks) ≤ times b blocks
times_take b i blocks =
    let all : times b blocks ≡ times b (take i blocks) + times b (drop i blocks) =
    ap (times b) (sym (take-append-drop i blocks)) ∙ sum_by-append _ (take i blocks) (drop i blocks) in
    omega arith

-- what refuses one more block refuses all
pub taken_more : (fault : MountFault) (old new : List Bool) (blocks : List ℕ) (i block : ℕ) → i < length blocks → block ≡ get_or blocks i 0
    → AddsBlocks old new (take i blocks) → AreTaken fault new (block ∷ []) → AreTaken fault old blocks
taken_more BlockRange old new blocks i block within is adds (zero, x, below, at, past) =
    let len = adds.len in
    let same : block ≡ x = at in
    (i, block, within, get_or_default blocks i block 0 within ∙ sym is, omega arith)
taken_more BlockRange old new blocks i block within is adds (suc k, x, below, at, past) = absurd (omega arith)
taken_more BlockTwice old new blocks i block within is adds (b, twice) =
    let more = times_more b i block blocks within is in
    let few = times_take b (i + 1) blocks in
    let marks = adds.marks b in
    (b, omega arith)
taken_more _ old new blocks i block within is adds taken = absurd taken

-- ---- blocks that can be marked

times_at : (b i : ℕ) (blocks : List ℕ) → i < length blocks → get_or blocks i b ≡ b → 0 < times b blocks
times_at b i blocks within at =
    let is : b ≡ get_or blocks i 0 = sym at ∙ get_or_default blocks i b 0 within in
    let more = times_more b i b blocks within is in
    let few = times_take b (i + 1) blocks in
    let one : times b (b ∷ []) ≡ 1 = grind (arith, nat_tests) in
    omega arith

-- nothing refuses them
pub none_taken : (fault : MountFault) (used : List Bool) (blocks : List ℕ) → CanBeMarked used blocks → AreTaken fault used blocks → ⊥
none_taken BlockRange used blocks can (i, b, below, at, past) =
    let within = can.within b (times_at b i blocks below at) in
    omega arith
none_taken BlockTwice used blocks can (b, twice) =
    let once = can.once b in
    omega arith
none_taken _ used blocks can taken = taken

-- ---- blocks in front that are all marked

flag_by : (t : Bool) → cond {A = ℕ} t 1 0 ≡ 1 → t ≡ true
flag_by true is = refl
flag_by false is = cc

set_by : (used : List Bool) (b : ℕ) → slice_index_or used b false ≡ true → marked used b ≡ 1
set_by used b is = ap (λ (t : Bool). cond {A = ℕ} t 1 0) is

at_most_one : (used : List Bool) (b : ℕ) → marked used b ≤ 1
at_most_one used b = by (slice_index_or used b false)
  where
    by : (t : Bool) → cond {A = ℕ} t 1 0 ≤ 1
    by true = omega arith
    by false = omega arith

pub none_below : (used : List Bool) → AreMarkedBelow 0 used
none_below used = record { within = omega arith; each = λ b less. let no : ⊥ = omega arith in absurd no }

-- one more in front
pub one_below : (used : List Bool) (n : ℕ) (d : Bool) → n < length used → get_or used n d ≡ true → AreMarkedBelow n used
    → AreMarkedBelow (n + 1) used
one_below used n d within is below = record { within = omega arith; each = λ b less. by b less (nat_lt b n) refl }
  where
    by : (b : ℕ) → b < n + 1 → (t : Bool) → nat_lt b n ≡ t → slice_index_or used b false ≡ true
    by b less true lt = below.each b (grind (arith, nat_tests))
    by b less false ge =
        let at : b ≡ n = grind (arith, nat_tests) in
        ap (λ (k : ℕ). slice_index_or used k false) at ∙ get_or_default used n false d within ∙ is

-- ---- blocks that are unmarked, one after another

past_unmarked : (used : List Bool) (b : ℕ) → length used ≤ b → marked used b ≡ 0
past_unmarked used b past = ap (λ (t : Bool). cond {A = ℕ} t 1 0) (get_or_past used b false past)

-- a block that is marked
pub marked_there : (used : List Bool) (b : ℕ) → AreMarked used (b ∷ []) → (b < length used) × (slice_index_or used b false ≡ true)
marked_there used b all =
    let one : times b (b ∷ []) ≡ 1 = grind (arith, nat_tests) in
    let some = all b in
    let is : marked used b ≡ 1 = omega (arith, one, some, at_most_one used b) in
    (grind (arith, past_unmarked used b), flag_by (slice_index_or used b false) is)

-- it is unmarked
pub unmarked_one : (used : List Bool) (b : ℕ) → b < length used → slice_index_or used b false ≡ true
    → AddsBlocks (set used b false) used (b ∷ [])
unmarked_one used b within is = record {
  len = sym (length-set used b false);
  marks = λ n. by n (nat_eq n b) refl;
  fewer = omega (
    arith,
    sum_by-set (λ (u : Bool). if not u then 1 else 0) used b false false within,
    ap (λ (u : Bool). cond {A = ℕ} (not u) 1 0) is,
  );
}
  where
    by : (n : ℕ) (t : Bool) → nat_eq n b ≡ t → marked used n ≡ marked (set used b false) n + times n (b ∷ [])
    by n true same =
        let at : n ≡ b = grind (arith, nat_tests) in
        let one : times n (b ∷ []) ≡ 1 = grind (arith, nat_tests) in
        let old : marked used n ≡ 1 = ap (marked used) at ∙ set_by used b is in
        let new : marked (set used b false) n ≡ 0 = ap (marked (set used b false)) at
        ∙ ap (λ (t : Bool). cond {A = ℕ} t 1 0) (get_or-set_same used b false false within) in
        omega (arith, one, old, new)
    by n false other =
        let apart : n ≢ b = grind (arith, nat_tests) in
        let none : times n (b ∷ []) ≡ 0 = grind (arith, nat_tests) in
        let same : marked (set used b false) n ≡ marked used n =
        ap (λ (t : Bool). cond {A = ℕ} t 1 0) (get_or-set_other used b n false false apart) in
        omega (arith, none, same)

-- the next one of marked blocks is marked still
pub marked_next : (old new : List Bool) (blocks : List ℕ) (i block : ℕ) → i < length blocks → block ≡ get_or blocks i 0 → AreMarked old blocks
    → AddsBlocks new old (take i blocks) → AreMarked new (block ∷ [])
marked_next old new blocks i block within is all gives b =
    let more = times_more b i block blocks within is in
    let few = times_take b (i + 1) blocks in
    let marks = gives.marks b in
    let some = all b in
    omega arith
