-- Pairs lowered one after another.
use Rattle.std.proofs.Common.{◌≡◌, ◌≢◌, ◌⊎◌, inl, inr, ℕ, ◌+◌, ◌≤◌, ◌<◌, List, [], ◌∷◌, ◌++◌, length, take, ap, sym, ◌∙◌, subst, arith, get_or}
use Rattle.std.specs.Prelude.{Contains}
use Rattle.std.proofs.lemmas.Bool.Decides.{nat_tests}
use Rattle.std.proofs.lemmas.List.{take_more}
use Rattle.std.proofs.lemmas.List.Elements.{Contains-push_cases}
use Rattle.std.proofs.lemmas.List.Sums.{sum_by-take-le}
use Rattle.lfs_block.specs.Disk.{Disk, block_of}
use Rattle.lfs_meta.specs.Body.{Pair}
use Rattle.lfs_meta.specs.Laws.{PartsDependOnTheirBlocks}
use Rattle.lfs_meta.specs.LiveBlock.{committed, stored_part_of}
use Rattle.lfs_fs.specs.Front.{pair_names, pairs_name}
use Rattle.lfs_fs.proofs.ThreadReadLemmas.{pairs_more}
use Rattle.lfs_lower.specs.Alone.{IsAlone, IsLeft, IsPlain, IsSame}
use Rattle.lfs_lower.specs.LaterReading.{later_part_of}
use Rattle.lfs_lower.specs.Lowered.{IsPairLowered}
use Rattle.lfs_lower.specs.Spelled.{is_root_block, lowered_tags}
use Rattle.lfs_lower.proofs.AloneBlocks.{alone_on}
use Rattle.lfs_lower.proofs.FreshPairs.{IsFresh}
use Rattle.lfs_lower.proofs.LongestFronts.{pairs_name_both}
use Rattle.lfs_lower.proofs.LoweredPairs.{later_same}
use Rattle.lfs_settle.specs.Lowered.{ArePairsLowered}
use Rattle.lfs_settle.proofs.ThreadPairs.{last_fresh}

apart_from : (b : ℕ) (p : Pair) → pair_names b p ≡ 0 → (b ≢ p.0) × (b ≢ p.1)
apart_from b p none = (grind (arith, nat_tests), grind (arith, nat_tests))

module _ (depend : PartsDependOnTheirBlocks) (d e f : Disk) (ps : List Pair) (p : Pair)
    (fresh : IsFresh d.count ps p) (once : (b : ℕ) → pairs_name b (ps ++ p ∷ []) ≤ 1) (old : ArePairsLowered d e ps) (new : IsPairLowered e f p) where
  -- the blocks of the new pair were as before
  before : IsSame d e p
  before = (old.others p.0 fresh.first_new, old.others p.1 fresh.second_new)

  -- those of the pairs before it stay
  still_same : (q : Pair) → Contains ps q → IsSame e f q
  still_same q there =
      let named = pairs_name_both ps q there in
      let first = apart_from q.0 p (omega (arith, named.0, once q.0, pairs_more q.0 ps p)) in
      let second = apart_from q.1 p (omega (arith, named.1, once q.1, pairs_more q.1 ps p)) in
      (new.others q.0 first.0 first.1, new.others q.1 second.0 second.1)

  still_held : (q : Pair) → Contains ps q → stored_part_of f q ≡ later_part_of d q
  still_held q there = (depend f e q (still_same q there)).2 ∙ old.held q there

  still_alone : (q : Pair) → Contains ps q → IsLeft d f q ⊎ IsAlone f q
  still_alone q there =
      let same = still_same q there in
      elim (old.alone q there) [
        | inl is ↦ inl (record {
          first_plain = is.first_plain;
          second_plain = is.second_plain;
          same = (same.0 ∙ is.same.0, same.1 ∙ is.same.1);
        })
        | inr alone ↦ inr (alone_on e f q new.size same alone)
      ]

  plain_before : (b : ℕ) → block_of e b ≡ block_of d b → IsPlain e b → IsPlain d b
  plain_before b same is = subst (λ (x : List ℕ). lowered_tags (is_root_block b) x ≡ committed x) same is

  new_alone : IsLeft d f p ⊎ IsAlone f p
  new_alone = elim new.alone [
    | inl is ↦ inl (record {
      first_plain = plain_before p.0 before.0 is.first_plain;
      second_plain = plain_before p.1 before.1 is.second_plain;
      same = (is.same.0 ∙ before.0, is.same.1 ∙ before.1);
    })
    | inr is ↦ inr is
  ]

  pairs_lowered_more : ArePairsLowered d f (ps ++ p ∷ [])
  pairs_lowered_more = record {
    disk = new.disk;
    size = new.size ∙ old.size;
    count = new.count ∙ old.count;
    held = λ q there. elim (Contains-push_cases ps p q there) [
      | inl earlier ↦ still_held q earlier
      | inr is ↦ subst (λ (x : Pair). stored_part_of f x ≡ later_part_of d x) is (new.held ∙ later_same d e p before)
    ];
    alone = λ q there. elim (Contains-push_cases ps p q there) [
      | inl earlier ↦ still_alone q earlier
      | inr is ↦ subst (λ (x : Pair). IsLeft d f x ⊎ IsAlone f x) is new_alone
    ];
    others = λ b none.
        let free = apart_from b p (omega (arith, none, pairs_more b ps p)) in
        new.others b free.0 free.1 ∙ old.others b (omega (arith, none, pairs_more b ps p));
  }

module _ (d : Disk) (all : List Pair) (i : ℕ) (o : Pair) (below : i < length all) (within : (b : ℕ) → 0 < pairs_name b all → b < d.count)
    (once : (b : ℕ) → pairs_name b all ≤ 1) where
  one_more : take (i + 1) all ≡ take i all ++ get_or all i o ∷ []
  one_more = take_more all i o below

  few : (b : ℕ) → pairs_name b (take i all ++ get_or all i o ∷ []) ≤ pairs_name b all
  few b = omega (arith, sum_by-take-le (pair_names b) all (i + 1), ap (pairs_name b) one_more)

  -- the next of pairs has no block of those before
  pub next_fresh : IsFresh d.count (take i all) (get_or all i o)
  next_fresh = last_fresh d.count (take i all) (get_or all i o) (record {
    within = λ b some. within b (omega (arith, some, few b));
    once = λ b. omega (arith, few b, once b);
  })

  -- and is lowered as they are
  pub next_lowered : PartsDependOnTheirBlocks → (e f : Disk) → ArePairsLowered d e (take i all) → IsPairLowered e f (get_or all i o)
      → ArePairsLowered d f (take (i + 1) all)
  next_lowered depend e f old new =
      subst (ArePairsLowered d f) (sym one_more)
      (pairs_lowered_more depend d e f (take i all) (get_or all i o) next_fresh (λ b. omega (arith, few b, once b)) old new)
