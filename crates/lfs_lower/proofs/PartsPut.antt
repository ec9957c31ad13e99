-- Pairs that are rewritten, one after another.
use Rattle.std.proofs.Common.{◌≡◌, ◌≢◌, ◌⊎◌, inl, inr, ℕ, ◌+◌, ◌<◌, ◌≤◌, List, [], ◌∷◌, ◌++◌, length, map, take, get_or, Some, refl, ap, sym, ◌∙◌, subst, arith}
use Rattle.std.specs.Prelude.{Contains}
use Rattle.std.proofs.lemmas.Bool.Decides.{nat_tests}
use Rattle.std.proofs.lemmas.List.{take-map, take_more}
use Rattle.std.proofs.lemmas.List.Elements.{Contains-push_cases}
use Rattle.std.proofs.lemmas.List.Sums.{sum_by-cons, sum_by-take-le}
use Rattle.lfs_block.specs.Disk.{Disk, IsDisk, erased_block}
use Rattle.lfs_tag.specs.Laws.{ErasedBlock, LogIsRead}
use Rattle.lfs_meta.specs.Body.{Pair}
use Rattle.lfs_meta.specs.Laws.{PartsDependOnTheirBlocks}
use Rattle.lfs_meta.specs.LiveBlock.{stored_part_of}
use Rattle.lfs_pair.specs.Writing.{IsPartBlock}
use Rattle.lfs_pair.proofs.LogLemmas.{erased-uncommitted}
use Rattle.lfs_fs.specs.Front.{pair_names, pairs_name}
use Rattle.lfs_fs.specs.Gathering.{PairPart}
use Rattle.lfs_fs.proofs.ContainsLemmas.{contains_cases, contains_none}
use Rattle.lfs_lower.specs.Alone.{AreOf, IsAlone, IsSame, IsWrittenAlone}
use Rattle.lfs_lower.specs.Joining.{ArePartsPut, IsPartPut}
use Rattle.lfs_lower.proofs.AloneBlocks.{alone_by, alone_on, held_by, others_by}

-- ---- one pair

pub part_put : ErasedBlock → LogIsRead → (d e : Disk) (p : PairPart) (live beside number : ℕ) (block : List ℕ) → IsDisk d
    → AreOf p.0 live beside → IsPartBlock d.size number p.1 block → IsWrittenAlone d e live beside block → IsPartPut d e p
part_put erased log d e p live beside number block disk of h written = record {
  disk = written.disk;
  size = written.size;
  count = written.count;
  held =
      let none = erased-uncommitted erased log d.size (omega (arith, disk.geometry.size_fits.0)) in
      held_by d e p.0 live beside block (Some p.1) none of written h.before_erased h.behind_erased;
  alone = inr (alone_by d e p.0 live beside block of written);
  others = others_by d e p.0 live beside block of written;
}

-- a pair that holds its part stays
pub part_stays : (d : Disk) (p : PairPart) → IsDisk d → stored_part_of d p.0 ≡ Some p.1 → IsPartPut d d p
part_stays d p disk held =
    record { disk = disk; size = refl; count = refl; held = held; alone = inl (refl, refl); others = λ b first second. refl }

-- ---- one pair more

-- the pairs of parts
abbrev pub pairs_in : List PairPart → List Pair
pairs_in ps = map (λ p. p.0) ps

pairs_in_more : (b : ℕ) (ps : List PairPart) (p : PairPart) → pairs_name b (pairs_in (ps ++ p ∷ [])) ≡ pairs_name b (pairs_in ps) + pair_names b p.0
pairs_in_more b [] p = omega arith
pairs_in_more b (q ∷ ps) p =
    let rest = pairs_in_more b ps p in
    omega (arith, sum_by-cons (pair_names b) q.0 (pairs_in (ps ++ p ∷ [])), sum_by-cons (pair_names b) q.0 (pairs_in ps))

-- a part's pair is one of theirs
pub pair_in : (b : ℕ) (ps : List PairPart) (p : PairPart) → Contains ps p → pair_names b p.0 ≤ pairs_name b (pairs_in ps)
pair_in b [] p there = absurd (contains_none p there)
pair_in b (q ∷ ps) p there =
    elim (contains_cases q ps p there) [
      | inl is ↦ (let same = ap (λ (x : PairPart). pair_names b x.0) is in omega (arith, sum_by-cons (pair_names b) q.0 (pairs_in ps)))
      | inr later ↦ (let rest = pair_in b ps p later in omega (arith, sum_by-cons (pair_names b) q.0 (pairs_in ps)))
    ]

names_first : (p : Pair) → 1 ≤ pair_names p.0 p
names_first p = grind (arith, nat_tests)

names_second : (p : Pair) → 1 ≤ pair_names p.1 p
names_second p = grind (arith, nat_tests)

-- a pair doesn't name what another one names
not_named : (b : ℕ) (p : Pair) → pair_names b p ≡ 0 → (b ≢ p.0) × (b ≢ p.1)
not_named b p none = (grind (arith, nat_tests), grind (arith, nat_tests))

module _ (depend : PartsDependOnTheirBlocks) (d e f : Disk) (ps : List PairPart) (p : PairPart) (old : ArePartsPut d e ps)
    (new : IsPartPut e f p) (once : (b : ℕ) → pairs_name b (pairs_in (ps ++ p ∷ [])) ≤ 1) where
  -- the blocks of those before stay
  still_same : (q : PairPart) → Contains ps q → IsSame e f q.0
  still_same q there =
      let first_most = once q.0.0 in
      let second_most = once q.0.1 in
      let first_in = pair_in q.0.0 ps q there in
      let second_in = pair_in q.0.1 ps q there in
      let first_there = names_first q.0 in
      let second_there = names_second q.0 in
      let first = not_named q.0.0 p.0 (omega (arith, pairs_in_more q.0.0 ps p)) in
      let second = not_named q.0.1 p.0 (omega (arith, pairs_in_more q.0.1 ps p)) in
      (new.others q.0.0 first.0 first.1, new.others q.0.1 second.0 second.1)

  -- a pair that holds its part goes on holding it
  still_held : (q : PairPart) → Contains ps q → stored_part_of f q.0 ≡ Some q.1
  still_held q there = (depend f e q.0 (still_same q there)).2 ∙ old.held q there

  still_alone : (q : PairPart) → Contains ps q → IsSame d f q.0 ⊎ IsAlone f q.0
  still_alone q there =
      let same = still_same q there in
      elim (old.alone q there) [
        | inl is ↦ inl (same.0 ∙ is.0, same.1 ∙ is.1)
        | inr alone ↦ inr (alone_on e f q.0 new.size same alone)
      ]

  -- its blocks are the same in both, unless the pair is the new one
  new_alone : IsSame d f p.0 ⊎ IsAlone f p.0
  new_alone =
      let before = λ (b : ℕ) (named : 1 ≤ pair_names b p.0). old.others b (omega (arith, pairs_in_more b ps p, once b, named)) in
      elim new.alone [
        | inl is ↦ inl (is.0 ∙ before p.0.0 (names_first p.0), is.1 ∙ before p.0.1 (names_second p.0))
        | inr is ↦ inr is
      ]

  parts_put_more : ArePartsPut d f (ps ++ p ∷ [])
  parts_put_more = record {
    disk = new.disk;
    size = new.size ∙ old.size;
    count = new.count ∙ old.count;
    held = λ q there. elim (Contains-push_cases ps p q there) [
      | inl earlier ↦ still_held q earlier
      | inr is ↦ subst (λ (x : PairPart). stored_part_of f x.0 ≡ Some x.1) is new.held
    ];
    alone = λ q there. elim (Contains-push_cases ps p q there) [
      | inl earlier ↦ still_alone q earlier
      | inr is ↦ subst (λ (x : PairPart). IsSame d f x.0 ⊎ IsAlone f x.0) is new_alone
    ];
    others = λ b none.
        let free = not_named b p.0 (omega (arith, pairs_in_more b ps p)) in
        new.others b free.0 free.1 ∙ old.others b (omega (arith, pairs_in_more b ps p));
  }

-- the first ones of parts name no block more often
few_named : (all : List PairPart) (i b : ℕ) → pairs_name b (pairs_in all) ≤ 1 → pairs_name b (pairs_in (take i all)) ≤ 1
few_named all i b once =
    let same = take-map (λ (p : PairPart). p.0) i all in
    let fewer = sum_by-take-le (pair_names b) (pairs_in all) i in
    let is = ap (pairs_name b) same in
    omega arith

-- the same of the next of parts that no block is named twice of
pub next_put : PartsDependOnTheirBlocks → (d e f : Disk) (all : List PairPart) (i : ℕ) (p : PairPart) → i < length all → p ≡ get_or all i p
    → ((b : ℕ) → pairs_name b (pairs_in all) ≤ 1) → ArePartsPut d e (take i all) → IsPartPut e f p → ArePartsPut d f (take (i + 1) all)
next_put depend d e f all i p within at once old new =
    let one : take (i + 1) all ≡ take i all ++ p ∷ [] = take_more all i p within ∙ ap (λ (q : PairPart). take i all ++ q ∷ []) (sym at) in
    let fewer = λ (b : ℕ). subst (λ (ps : List PairPart). pairs_name b (pairs_in ps) ≤ 1) one (few_named all (i + 1) b (once b)) in
    subst (ArePartsPut d f) (sym one) (parts_put_more depend d e f (take i all) p old new fewer)
