-- Changes put among others that make a pair hold a part.
use Rattle.std.proofs.Common.{◌≡◌, ◌≢◌, ◌⊎◌, ℕ, ◌+◌, ◌<◌, ◌==◌, nat_lt, Bool, true, false, cond, List, [], ◌∷◌, refl, ap, sym, ◌∙◌, subst, arith}
use Rattle.std.proofs.Common.{inl, inr, length, Some, true≢false}
use Rattle.std.specs.Prelude.{if◌then◌else◌, replicate}
use Rattle.std.specs.List.{AllByRecursion}
use Rattle.std.proofs.lemmas.Bool.{cases_eq}
use Rattle.std.proofs.lemmas.Bool.Decides.{nat_tests}
use Rattle.lfs_block.specs.Bytes.{IsBytes}
use Rattle.lfs_block.specs.Change.{Change, IsRising, overlaid}
use Rattle.lfs_block.specs.Disk.{Disk, IsDisk, block_of, put}
use Rattle.lfs_block.specs.PatchLaws.{BlockPut, BlockPutOther}
use Rattle.lfs_meta.specs.Attribute.{Attributes}
use Rattle.lfs_meta.specs.Body.{Pair}
use Rattle.lfs_meta.specs.Entry.{StoredEntry}
use Rattle.lfs_meta.specs.LiveBlock.{stored_part_of}
use Rattle.lfs_meta.specs.Part.{StoredPart}
use Rattle.lfs_pair.specs.Spelling.{part_tags}
use Rattle.lfs_pair.specs.Writing.{IsFirstBlock, log_written, part_in, stored_part}
use Rattle.lfs_meta.proofs.HeldPartLemmas.{block_bytes}
use Rattle.lfs_fs.specs.Thread.{Link}
use Rattle.lfs_fs.specs.Uses.{times}
use Rattle.lfs_law.specs.PairWritten.{AddsChange, IsLinkStored, IsPairsBlock}
use Rattle.lfs_pair.specs.Difference.{Forced}
use Rattle.lfs_command.specs.PairChanged.{beside, pair_number}
use Rattle.lfs_command.specs.PartWritten.{Found, change_at, with_change}
use Rattle.lfs_law.specs.WrittenLinks.{changed_blocks, block_after, number_in, part_after, link_part, CanBeMade, IsPairWritten, FillsFirst, IsFreeFor, AddsPart, AddsLink}
use Rattle.lfs_law.proofs.BlockLemmas.{beside_is_one, pair_number_is_one}
use Rattle.lfs_law.proofs.ChangesAt.{change_complete, overlaid_none, with_all, with_rising}
use Rattle.lfs_law.proofs.LinksAdded.{times_cons}
use Rattle.lfs_law.proofs.OutlinesWritten.{none_named}

-- what holds of a part by its view
pub by_view : (P : Pair → StoredPart → Type 0) (seen part : Found) (es : List StoredEntry) → seen ≡ part → es ≡ seen.1.entries
    → P seen.0 (stored_part es seen.1.tail seen.1.delta) → P part.0 part.1
by_view P seen part es same is holds =
    subst (λ (x : Found). P x.0 x.1) same (subst (λ (xs : List StoredEntry). P seen.0 (stored_part xs seen.1.tail seen.1.delta)) is holds)

-- ---- one change more

times_with : (m : ℕ) (c : Change) (cs : List Change) → times m (changed_blocks (with_change c cs))
    ≡ times m (changed_blocks cs) + times m (c.number ∷ [])
unfolding with_change
times_with m c [] = omega arith
times_with m c (e ∷ es) = by (nat_lt e.number c.number) (times_with m c es)
  where
    by : (t : Bool) → times m (changed_blocks (with_change c es)) ≡ times m (changed_blocks es) + times m (c.number ∷ [])
        → times m (changed_blocks (if t then e ∷ with_change c es else c ∷ e ∷ es))
        ≡ times m (changed_blocks (e ∷ es)) + times m (c.number ∷ [])
    by true later = omega (
      arith,
      later,
      times_cons m e.number (changed_blocks (with_change c es)),
      times_cons m e.number (changed_blocks es),
    )
    by false later = omega (arith, times_cons m c.number (changed_blocks (e ∷ es)), times_cons m c.number [])

overlaid_here : (c : Change) (cs : List Change) (below : List ℕ) → AllByRecursion (λ e. e.number ≢ c.number) cs
    → overlaid (with_change c cs) c.number below ≡ c.new
unfolding with_change
overlaid_here c [] below apart = let same : (c.number == c.number) ≡ true = grind (arith, nat_tests) in rw same refl
overlaid_here c (e ∷ es) below apart = by (nat_lt e.number c.number) (overlaid_here c es below apart.1)
  where
    by : (t : Bool) → overlaid (with_change c es) c.number below ≡ c.new
        → overlaid (if t then e ∷ with_change c es else c ∷ e ∷ es) c.number below ≡ c.new
    by true later = let other : (e.number == c.number) ≡ false = grind (arith, nat_tests) in rw other later
    by false later = let same : (c.number == c.number) ≡ true = grind (arith, nat_tests) in rw same refl

overlaid_other : (c : Change) (cs : List Change) (n : ℕ) (below : List ℕ) → n ≢ c.number
    → overlaid (with_change c cs) n below ≡ overlaid cs n below
unfolding with_change
overlaid_other c [] n below apart = let other : (c.number == n) ≡ false = grind (arith, nat_tests) in rw other refl
overlaid_other c (e ∷ es) n below apart = by (nat_lt e.number c.number) (overlaid_other c es n below apart)
  where
    by : (t : Bool) → overlaid (with_change c es) n below ≡ overlaid es n below
        → overlaid (if t then e ∷ with_change c es else c ∷ e ∷ es) n below ≡ overlaid (e ∷ es) n below
    by true later = ap (λ (bytes : List ℕ). if e.number == n then e.new else bytes) later
    by false later = let other : (c.number == n) ≡ false = grind (arith, nat_tests) in rw other refl

pub change_added : (d : Disk) (c : Change) (old : List Change) → IsRising old → AllByRecursion (CanBeMade d) old → CanBeMade d c
    → times c.number (changed_blocks old) ≡ 0
    → AddsChange d c old (with_change c old)
change_added d c old rising made this none =
    let apart : AllByRecursion (λ e. e.number ≢ c.number) old = none_named c.number old none in
    record {
      rising = with_rising c old apart rising;
      made = with_all (CanBeMade d) c old this made;
      named = λ n. times_with n c old;
      here = overlaid_here c old (block_of d c.number) apart;
      others = λ n other. overlaid_other c old n (block_of d n) other;
    }

pub change_can : (d : Disk) (n : ℕ) (new : List ℕ) → IsDisk d → n < d.count → length new ≡ d.size → IsBytes new
    → CanBeMade d (change_at d n new)
change_can d n new disk below len bytes = let fits = change_complete d n new disk below len bytes (block_bytes d n disk) in
    record { stands = fits.stands; complete = fits.complete }

-- ---- a pair that is rewritten

-- a number that isn't there isn't the one that is
not_one : (n m : ℕ) → times n (m ∷ []) ≡ 0 → n ≢ m
not_one n m none same =
    let one : cond {A = ℕ} (m == n) 1 0 ≡ 1 = grind (arith, nat_tests) in
    omega (arith, one, none, times_cons n m [])

is_other : (n m : ℕ) → n ≢ m → times n (m ∷ []) ≡ 0
is_other n m apart = let none : cond {A = ℕ} (m == n) 1 0 ≡ 0 = grind (arith, nat_tests) in omega (arith, none, times_cons n m [])

-- what a block of the pair holds, in the image with the one block put
block_same : BlockPut → BlockPutOther → (d : Disk) → IsDisk d → (n m : ℕ) (new : List ℕ) (old cs : List Change) → n < d.count
    → length new ≡ d.size → times m (changed_blocks old) ≡ 0
    → AddsChange d (change_at d n new) old cs → block_after d cs m ≡ block_of (put n new d) m
block_same put_law other d disk n m new old cs below len none adds = elim (cases_eq m n) [
  | inl same ↦ ap (block_after d cs) same ∙ adds.here ∙ sym (put_law d n new disk below len) ∙ ap (block_of (put n new d)) (sym same)
  | inr apart ↦ adds.others m apart ∙ overlaid_none old m (block_of d m) (none_named m old none)
      ∙ sym (other d n m new disk below apart len)
]

-- the block of a pair that has no change yet
pub one_free : (d : Disk) (pair : Pair) (n : ℕ) (old : List Change) → (n ≡ pair.0) ⊎ (n ≡ pair.1) → IsFreeFor d pair old
    → times n (changed_blocks old) ≡ 0
one_free d pair n old is free = elim is [
  | inl one ↦ subst (λ (k : ℕ). times k (changed_blocks old) ≡ 0) (sym one) free.first
  | inr one ↦ subst (λ (k : ℕ). times k (changed_blocks old) ≡ 0) (sym one) free.second
]

pub block_is_one : (d : Disk) (is_cut : Bool) (forced : Forced) (part : Found) (n : ℕ) (block : List ℕ)
    → IsPairsBlock d is_cut forced part n block → (n ≡ part.0.0) ⊎ (n ≡ part.0.1)
block_is_one d is_cut forced part n block is =
    subst (λ (m : ℕ). (m ≡ part.0.0) ⊎ (m ≡ part.0.1)) (sym is.number) (pair_number_is_one d is_cut forced part.0 part.1)

-- it is the one of its pair that changes then name
number_named : (d : Disk) (pair : Pair) (n : ℕ) (new : List ℕ) (old cs : List Change) → pair.0 ≢ pair.1 → (n ≡ pair.0) ⊎ (n ≡ pair.1)
    → IsFreeFor d pair old
    → AddsChange d (change_at d n new) old cs → number_in cs pair ≡ n
number_named d pair n new old cs apart is free adds = elim is [
  | inl one ↦
      (let here : cond {A = ℕ} (n == pair.0) 1 0 ≡ 1 = grind (arith, nat_tests) in
      let some : times pair.0 (changed_blocks cs) ≡ 1 = omega (arith, adds.named pair.0, free.first, times_cons pair.0 n [], here) in
      let named : (times pair.0 (changed_blocks cs) == 0) ≡ false = grind (arith, nat_tests) in
      ap (λ (t : Bool). if t then pair.1 else pair.0) named ∙ sym one)
  | inr one ↦
      (let none : times pair.0 (n ∷ []) ≡ 0 = is_other pair.0 n (λ same. apart (same ∙ one)) in
      let never : times pair.0 (changed_blocks cs) ≡ 0 = omega (arith, adds.named pair.0, free.first, none) in
      let unnamed : (times pair.0 (changed_blocks cs) == 0) ≡ true = ap (λ (k : ℕ). k == 0) never in
      ap (λ (t : Bool). if t then pair.1 else pair.0) unnamed ∙ sym one)
]

pub pair_changed : BlockPut → BlockPutOther → (d : Disk) → IsDisk d
    → (pair : Pair) (n : ℕ) (new : List ℕ) (part : StoredPart) (old cs : List Change)
    → pair.0 ≢ pair.1 → (n ≡ pair.0) ⊎ (n ≡ pair.1) → n < d.count → length new ≡ d.size
    → stored_part_of (put n new d) pair ≡ Some part → IsFreeFor d pair old
    → AddsChange d (change_at d n new) old cs → AddsPart d pair (number_in cs pair ∷ []) part old cs
pair_changed put_law other d disk pair n new part old cs apart is below len back free adds =
    let named : number_in cs pair ≡ n = number_named d pair n new old cs apart is free adds in
    record {
      rising = adds.rising;
      made = adds.made;
      named = λ m. adds.named m ∙ ap (λ (k : ℕ). times m (changed_blocks old) + times m (k ∷ [])) (sym named);
      others = λ m none. adds.others m (λ same. not_one m (number_in cs pair) none (same ∙ sym named));
      back = ap (λ (b : List ℕ). part_in b (block_after d cs pair.1))
          (block_same put_law other d disk n pair.0 new old cs below len free.first adds)
          ∙ ap (part_in (block_of (put n new d) pair.0)) (block_same put_law other d disk n pair.1 new old cs below len free.second adds)
          ∙ back;
    }

-- the other block of a pair is another one
beside_other : (pair : Pair) (n : ℕ) → pair.0 ≢ pair.1 → (n ≡ pair.0) ⊎ (n ≡ pair.1) → beside pair n ≢ n
beside_other pair n apart is = by (pair.0 == n) refl
  where
    by : (t : Bool) → (pair.0 == n) ≡ t → (if t then pair.1 else pair.0) ≢ n
    by true same equal = let first : pair.0 ≡ n = grind (arith, nat_tests) in apart (first ∙ sym equal)
    by false differ equal = let no : ⊥ = grind (arith, nat_tests) in no

pub pair_written : (d : Disk) (is_cut : Bool) (forced : Forced) (part : Found) (n : ℕ) (new : List ℕ) (old cs : List Change)
    → part.0.0 ≢ part.0.1 → IsPairsBlock d is_cut forced part n new → IsFreeFor d part.0 old → AddsChange d (change_at d n new) old cs
    → part_after d cs part.0 ≡ Some part.1
    → IsPairWritten d is_cut forced part.0 cs
pair_written d is_cut forced part n new old cs apart block free adds back =
    let pair : Pair = part.0 in
    let is = pair_number_is_one d is_cut forced pair part.1 in
    let m : ℕ = beside pair (pair_number d is_cut forced pair part.1) in
    record {
      part = part.1;
      holds = back;
      here = ap (block_after d cs) (sym block.number) ∙ adds.here ∙ block.bytes;
      there = adds.others m (λ same. beside_other pair (pair_number d is_cut forced pair part.1) apart is (same ∙ block.number))
          ∙ overlaid_none old m (block_of d m) (none_named m old (one_free d pair m old (beside_is_one pair _) free));
    }

-- ---- a new pair

-- there is no change of its second block when its first one is written
pub second_free : (d : Disk) (pair : Pair) (block : List ℕ) (old mid : List Change) → pair.0 ≢ pair.1 → IsFreeFor d pair old
    → AddsChange d (change_at d pair.0 block) old mid
    → times pair.1 (changed_blocks mid) ≡ 0
second_free d pair block old mid apart free adds =
    let other : times pair.1 (pair.0 ∷ []) ≡ 0 = is_other pair.1 pair.0 (λ same. apart (sym same)) in
    omega (arith, adds.named pair.1, free.second, other)

pub pair_filled : (d : Disk) (pair : Pair) (first second : List ℕ) (part : StoredPart) (old mid cs : List Change) → pair.0 ≢ pair.1
    → AddsChange d (change_at d pair.0 first) old mid → AddsChange d (change_at d pair.1 second) mid cs
    → part_in first second ≡ Some part → AddsPart d pair (pair.0 ∷ pair.1 ∷ []) part old cs
pair_filled d pair first second part old mid cs apart one two back = record {
  rising = two.rising;
  made = two.made;
  named = λ n. omega (arith, one.named n, two.named n, times_cons n pair.0 (pair.1 ∷ []), times_cons n pair.0 []);
  others = λ n none.
      let first_none : times n (pair.0 ∷ []) ≡ 0 = omega (arith, none, times_cons n pair.0 (pair.1 ∷ []), times_cons n pair.0 []) in
      let second_none : times n (pair.1 ∷ []) ≡ 0 = omega (arith, none, times_cons n pair.0 (pair.1 ∷ [])) in
      two.others n (not_one n pair.1 second_none) ∙ one.others n (not_one n pair.0 first_none);
  back = ap (λ (b : List ℕ). part_in b (block_after d cs pair.1)) (two.others pair.0 apart ∙ one.here) ∙ ap (part_in first) two.here ∙ back;
}

pub first_filled : (d : Disk) (pair : Pair) (size : ℕ) (part : StoredPart) (first second : List ℕ) (old mid cs : List Change)
    → pair.0 ≢ pair.1 → size ≡ d.size → IsFirstBlock size part first → second ≡ replicate size 0xff
    → AddsChange d (change_at d pair.0 first) old mid → AddsChange d (change_at d pair.1 second) mid cs
    → FillsFirst d cs pair
first_filled d pair size part first second old mid cs apart same is erased one two =
    let front : block_after d cs pair.0 ≡ first = two.others pair.0 apart ∙ one.here in
    let behind : block_after d cs pair.1 ≡ replicate size 0xff = two.here ∙ erased in
    record {
      part = part;
      holds = ap (λ (b : List ℕ). part_in b (block_after d cs pair.1)) front ∙ ap (part_in first) behind ∙ is.before_erased;
      written = front ∙ is.bytes ∙ ap (λ (n : ℕ). log_written 1 (part_tags part) (replicate n 0xff)) same;
      erased = behind ∙ ap (λ (n : ℕ). replicate n 0xff) same;
    }

-- ---- a link

pub link_filled : (d : Disk) (bytes : List ℕ) (attributes : Attributes) (is_new : Pair → Bool) (l : Link) (part : Found)
    (old cs : List Change) → is_new l.part.pair ≡ true → l.part.delta ≡ 0
    → IsLinkStored bytes attributes l part → AddsPart d part.0 (part.0.0 ∷ part.0.1 ∷ [])
    (stored_part part.1.entries part.1.tail (replicate 12 0)) old cs → FillsFirst d cs part.0
    → AddsLink d bytes attributes is_new l old cs
link_filled d bytes attributes is_new l part old cs new none stored adds filled = record {
  delta = replicate 12 0;
  delta_is = sym none;
  adds = subst (λ (t : Bool). AddsPart d l.part.pair (if t then l.part.pair.0 ∷ l.part.pair.1 ∷ [] else number_in cs l.part.pair ∷ [])
      (link_part bytes attributes l (replicate 12 0)) old cs) (sym new)
      (subst (λ (s : StoredPart). AddsPart d l.part.pair (l.part.pair.0 ∷ l.part.pair.1 ∷ [])
      (stored_part s.entries s.tail (replicate 12 0)) old cs) stored.part_is
      (subst (λ (k : Pair). AddsPart d k (k.0 ∷ k.1 ∷ []) (stored_part part.1.entries part.1.tail (replicate 12 0)) old cs) stored.pair
      adds));
  filled = λ fresh. subst (FillsFirst d cs) stored.pair filled;
}

pub link_changed : (d : Disk) (bytes : List ℕ) (attributes : Attributes) (is_new : Pair → Bool) (l : Link) (part : Found)
    (old cs : List Change) → is_new l.part.pair ≡ false
    → IsLinkStored bytes attributes l part → AddsPart d part.0 (number_in cs part.0 ∷ []) part.1 old cs
    → AddsLink d bytes attributes is_new l old cs
link_changed d bytes attributes is_new l part old cs unset stored adds = record {
  delta = stored.delta;
  delta_is = stored.delta_is;
  adds = subst (λ (t : Bool). AddsPart d l.part.pair (if t then l.part.pair.0 ∷ l.part.pair.1 ∷ [] else number_in cs l.part.pair ∷ [])
      (link_part bytes attributes l stored.delta) old cs) (sym unset)
      (subst (λ (s : StoredPart). AddsPart d l.part.pair (number_in cs l.part.pair ∷ []) s old cs) stored.part_is
      (subst (λ (k : Pair). AddsPart d k (number_in cs k ∷ []) part.1 old cs) stored.pair adds));
  filled = λ new. absurd (true≢false (sym new ∙ unset));
}
