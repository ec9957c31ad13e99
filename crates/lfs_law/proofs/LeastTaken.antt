-- What a command takes in order are the least free blocks, each as often.
use Rattle.std.proofs.Common.{◌≡◌, ◌+◌, ℕ, Bool, true, false, List, [], ◌∷◌, length, refl, ap, sym, ◌∙◌, arith, Option}
use Rattle.std.specs.Prelude.{All, if◌then◌else◌, nat_le, nat_lt, sum_by}
use Rattle.std.specs.List.{filter}
use Rattle.std.proofs.lemmas.List.Elements.{All-head, All-tail, All-weaker}
use Rattle.std.proofs.lemmas.List.Sorted.{sum_by-IsPermutation}
use Rattle.std.proofs.lemmas.List.Sums.{sum_by-cons}
use Rattle.lfs_meta.specs.Body.{Pair}
use Rattle.lfs_fs.specs.Directory.{Part, thread}
use Rattle.lfs_fs.specs.Entry.{Chain, Inline}
use Rattle.lfs_fs.specs.Uses.{body_uses, times}
use Rattle.lfs_fs.specs.Volume.{Volume}
use Rattle.lfs_command.specs.Command.{Command, Mkdir, Put, Rm, Mv, SetAttr, RmAttr, Grow}
use Rattle.lfs_command.specs.Cut.{HasEnough, new_pair_uses, new_pairs, runs}
use Rattle.lfs_command.specs.Edited.{edited}
use Rattle.lfs_command.specs.Need.{dirty_parts}
use Rattle.lfs_command.specs.Ordered.{TakesInOrder, blocks_chosen, blocks_made, blocks_of_pairs, leader, overflowing, overflowing_led, pair_blocks}
use Rattle.lfs_command.specs.Planned.{TakesLeast}
use Rattle.lfs_command.specs.Supplies.{Supplies, inline_limit, supply_uses}
use Rattle.lfs_law.proofs.Leaders.{leader_permutes}
use Rattle.lfs_law.proofs.LinksAdded.{times_append}
use Rattle.lfs_law.proofs.NamedBlocks.{times_flat}
use Rattle.lfs_law.proofs.OneWay.{none_is, none_later, tested}

-- a sum over those that pass a test, where the others give nothing
sum_passing : {X : Type 0} (t : X → Bool) (f : X → ℕ) (xs : List X) → All (λ x. t x ≡ false → f x ≡ 0) xs
    → sum_by f xs ≡ sum_by f (filter t xs)
sum_passing t f [] none = refl
sum_passing {X} t f (x ∷ xs) none =
    sum_by-cons f x xs ∙ by (t x) refl (sum_passing t f xs (All-tail (λ (y : X). t y ≡ false → f y ≡ 0) x xs none))
  where
    by : (b : Bool) → t x ≡ b → sum_by f xs ≡ sum_by f (filter t xs)
        → f x + sum_by f xs ≡ sum_by f (if b then x ∷ filter t xs else filter t xs)
    by true is rest = omega (arith, rest, sum_by-cons f x (filter t xs))
    by false is rest = omega (arith, rest, All-head (λ (y : X). t y ≡ false → f y ≡ 0) x xs none is)

-- ---- what is made

body_used : (n : ℕ) (bytes blocks : List ℕ) (t : Bool) → body_uses n (if t then Inline bytes else Chain blocks bytes)
    ≡ times n (if t then [] else blocks)
body_used n bytes blocks true = refl
body_used n bytes blocks false = refl

pub made_used : (v : Volume) (c : Command) (s : Supplies) (n : ℕ) → supply_uses v c s n ≡ times n (blocks_made v c s)
made_used v (Mkdir p) s n = refl
made_used v (Put p bytes most) s n = body_used n bytes s.blocks (nat_le (length bytes) (inline_limit v.size most))
made_used v (Rm p) s n = refl
made_used v (Mv p q) s n = refl
made_used v (SetAttr p k value) s n = refl
made_used v (RmAttr p k) s n = refl
made_used v (Grow m) s n = refl

-- ---- the pairs of parts

module _ (chosen : Part → List Pair) (v : Volume) (enough : All (HasEnough chosen v) (thread v.directories)) (n : ℕ) where
  -- how often those that are chosen for a part use a block, and where it is set
  abbrev used : Part → ℕ
  used p = times n (blocks_of_pairs (chosen p))

  abbrev set_used : Part → ℕ
  set_used p = sum_by (λ (q : Pair). times n (pair_blocks q)) (new_pairs chosen p)

  set_by : (p : Part) (t : Bool) → p.dirty ≡ t
      → set_used p ≡ sum_by (λ (q : Pair). times n (pair_blocks q)) (if t then chosen p else [])
  set_by p t is = ap (λ (b : Bool). sum_by (λ (q : Pair). times n (pair_blocks q)) (if b then chosen p else [])) is

  all_set : (ps : List Part) → sum_by set_used ps ≡ sum_by used (filter (λ p. p.dirty) ps)
  all_set [] = refl
  all_set (p ∷ ps) = sum_by-cons set_used p ps ∙ by p.dirty refl (all_set ps)
    where
      by : (t : Bool) → p.dirty ≡ t → sum_by set_used ps ≡ sum_by used (filter (λ q. q.dirty) ps)
          → set_used p + sum_by set_used ps ≡ sum_by used (if t then p ∷ filter (λ q. q.dirty) ps else filter (λ q. q.dirty) ps)
      by true is rest =
          omega (arith, rest, set_by p true is, times_flat n pair_blocks (chosen p), sum_by-cons used p (filter (λ q. q.dirty) ps))
      by false is rest = omega (arith, rest, set_by p false is)

  -- a part that doesn't overflow has none
  none_used : All (λ p. nat_lt 1 (length (runs v p)) ≡ false → used p ≡ 0) (dirty_parts v)
  none_used =
      tested (λ (p : Part). p.dirty) (λ (p : Part). nat_lt 1 (length (runs v p)) ≡ false → used p ≡ 0) (thread v.directories)
      (All-weaker (HasEnough chosen v) (λ (p : Part). p.dirty ≡ true → nat_lt 1 (length (runs v p)) ≡ false → used p ≡ 0)
      (λ p many set over. ap (λ (qs : List Pair). times n (blocks_of_pairs qs))
      (none_is (chosen p) (many set ∙ none_later (runs v p) over))) (thread v.directories) enough)

  pairs_used : (leading : Option Pair) → new_pair_uses chosen v n ≡ times n (blocks_chosen chosen (overflowing_led leading v))
  pairs_used leading =
      all_set (thread v.directories)
      ∙ sum_passing (λ (p : Part). nat_lt 1 (length (runs v p))) used (dirty_parts v) none_used
      ∙ sym (sum_by-IsPermutation used (overflowing v) (overflowing_led leading v)
      (leader_permutes (λ (p : Part). p.pair) leading (overflowing v)))
      ∙ sym (times_flat n (λ (p : Part). blocks_of_pairs (chosen p)) (overflowing_led leading v))

pub least_taken : (v : Volume) (c : Command) (s : Supplies) (chosen : Part → List Pair)
    → All (HasEnough chosen (edited v c s)) (thread (edited v c s).directories) → TakesInOrder v c s chosen → TakesLeast v c s chosen
least_taken v c s chosen enough ordered n =
    omega (
      arith,
      made_used v c s n,
      pairs_used chosen (edited v c s) enough n (leader v c s),
      times_append n (blocks_made v c s) (blocks_chosen chosen (overflowing_led (leader v c s) (edited v c s))),
      ap (times n) ordered,
    )
