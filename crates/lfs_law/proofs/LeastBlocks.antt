-- The least free blocks are free, and a new pair is that of the supplies.
use Rattle.std.proofs.Common.{◌≡◌, ◌⊎◌, ℕ, zero, suc, ◌+◌, ◌<◌, ◌≤◌, Bool, true, false, cond, take, refl, ap, sym, ◌∙◌}
use Rattle.std.proofs.Common.{arith, inl, inr}
use Rattle.std.specs.Prelude.{Contains, if◌then◌else◌}
use Rattle.lfs_meta.specs.Body.{Pair}
use Rattle.lfs_fs.specs.Pair.{same_pair}
use Rattle.lfs_fs.specs.Directory.{Part, thread}
use Rattle.lfs_fs.specs.Volume.{Volume}
use Rattle.lfs_fs.specs.Free.{free_blocks}
use Rattle.lfs_fs.specs.Uses.{times, uses}
use Rattle.lfs_fs.proofs.CountLemmas.{element_le}
use Rattle.lfs_command.specs.Command.{Command, Mkdir, Put, Rm, Mv, SetAttr, RmAttr, Grow}
use Rattle.lfs_command.specs.Growth.{count_after, grown}
use Rattle.lfs_command.specs.Supplies.{Supplies, supply_uses}
use Rattle.lfs_command.specs.Edited.{edited}
use Rattle.lfs_command.specs.Cut.{new_pair_uses}
use Rattle.lfs_command.specs.Need.{need, is_new_to}
use Rattle.lfs_law.specs.PlansHold.{LeastAreFree}
use Rattle.lfs_law.proofs.Decided.{same_pair_decides}
use Rattle.lfs_law.proofs.FreeBlocks.{taken_once, taken_free}
use Rattle.lfs_law.proofs.NamedBlocks.{sum_zero, not_new}
use Rattle.lfs_law.proofs.PairTotals.{total, made_total, edited_total}

-- ---- the least free blocks

-- a number is zero, or is not
pub none_or_some : (n : ℕ) → (n ≡ 0) ⊎ (1 ≤ n)
none_or_some zero = inl refl
none_or_some (suc n) = inr (omega arith)

pub least_are_free : LeastAreFree
least_are_free v c s chosen sound least = (
  record { once = λ b. omega (arith, once b); within = λ b some. within b (omega (arith, some, least b)) },
  once,
  λ b some. within b (omega (arith, some, least b)),
)
  where
    within : (b : ℕ) → 1 ≤ times b (take (need v c) (free_blocks (grown c v))) → b < count_after c v.count
    within b some = (taken_free (grown c v) (need v c) b some).1

    once : (b : ℕ) → uses b v + supply_uses v c s b + new_pair_uses chosen (edited v c s) b ≤ 1
    once b = elim (none_or_some (times b (take (need v c) (free_blocks (grown c v))))) [
      | inl none ↦ omega (arith, none, least b, sound.once b)
      | inr some ↦ omega (arith, least b, taken_once (grown c v) (need v c) b, (taken_free (grown c v) (need v c) b some).0)
    ]

-- ---- new pairs

-- one, where a pair is new and isn't the pair of the supplies
abbrev new_elsewhere : Volume → Supplies → Pair → ℕ
new_elsewhere v s pair = if is_new_to v pair then (if same_pair pair s.pair then 0 else 1) else 0

none_before : (v : Volume) (s : Supplies) → total (new_elsewhere v s) v.directories ≡ 0
none_before v s =
    sum_zero (λ (p : Part). new_elsewhere v s p.pair) (thread v.directories)
    (λ p there. ap (λ (t : Bool). cond {A = ℕ} t (cond {A = ℕ} (same_pair p.pair s.pair) 0 1) 0) (not_new v p there))

none_made : (v : Volume) (s : Supplies) → new_elsewhere v s s.pair ≡ 0
none_made v s = by (is_new_to v s.pair)
  where
    by : (t : Bool) → cond {A = ℕ} t (cond {A = ℕ} (same_pair s.pair s.pair) 0 1) 0 ≡ 0
    by true = ap (λ (u : Bool). cond {A = ℕ} u 0 1) ((same_pair_decides s.pair s.pair).1 refl)
    by false = refl

none_made_by : (v : Volume) (c : Command) (s : Supplies) → made_total (new_elsewhere v s) c s ≡ 0
none_made_by v (Mkdir p) s = none_made v s
none_made_by v (Put p bytes most) s = refl
none_made_by v (Rm p) s = refl
none_made_by v (Mv p q) s = refl
none_made_by v (SetAttr p k value) s = refl
none_made_by v (RmAttr p k) s = refl
none_made_by v (Grow n) s = refl

-- a new pair is that of the supplies
pub new_is_supplied : (v : Volume) (c : Command) (s : Supplies) (p : Part) → Contains (thread (edited v c s).directories) p
    → is_new_to v p.pair ≡ true → same_pair p.pair s.pair ≡ true
new_is_supplied v c s p there new =
    let le : new_elsewhere v s p.pair ≤ total (new_elsewhere v s) (edited v c s).directories =
    element_le (λ (x : Part). new_elsewhere v s x.pair) (thread (edited v c s).directories) p there in
    let none : new_elsewhere v s p.pair ≡ 0 = omega (
      arith,
      le,
      edited_total (new_elsewhere v s) v c s,
      none_before v s,
      none_made_by v c s,
    ) in
    by (same_pair p.pair s.pair) (sym (ap (λ (t : Bool). cond {A = ℕ} t (cond {A = ℕ} (same_pair p.pair s.pair) 0 1) 0) new) ∙ none)
  where
    by : (t : Bool) → cond {A = ℕ} t 0 1 ≡ 0 → t ≡ true
    by true h = refl
    by false h = let no : ⊥ = omega (arith, h) in absurd no
