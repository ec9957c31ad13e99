-- Commands of rows take the first of the free blocks, and free none, so that what they lead to uses the first blocks.
use Rattle.std.proofs.Common.{◌≡◌, ◌+◌, ◌-◌, ◌≤◌, ◌==◌, ℕ, Bool, true, false, List, [], ◌∷◌, length, take, refl, ap, sym, ◌∙◌, subst, arith}
use Rattle.std.specs.Prelude.{nat_le}
use Rattle.std.specs.List.{AllByRecursion, range_with_len}
use Rattle.std.proofs.lemmas.Bool.Decides.{nat_tests}
use Rattle.std.proofs.lemmas.List.FromFn.{length-range_with_len}
use Rattle.lfs_fs.specs.declared.limits.Limits.{Limits}
use Rattle.lfs_fs.specs.Formatted.{empty_volume}
use Rattle.lfs_fs.specs.Free.{free_blocks}
use Rattle.lfs_fs.specs.Sound.{IsSound}
use Rattle.lfs_fs.specs.Uses.{times, uses}
use Rattle.lfs_fs.specs.Volume.{Volume}
use Rattle.lfs_command.specs.Command.{Command}
use Rattle.lfs_command.specs.Freed.{freed_uses}
use Rattle.lfs_command.specs.Growth.{grown}
use Rattle.lfs_command.specs.Need.{need}
use Rattle.lfs_command.specs.Planned.{CarriesOut}
use Rattle.lfs_law.specs.Laws.{UsesAfter}
use Rattle.lfs_law.specs.Lengthened.{with_count}
use Rattle.lfs_law.proofs.CarriedFollow.{CarriedFollow}
use Rattle.lfs_law.proofs.FrugalPlans.{enough_free}
use Rattle.lfs_pack.specs.FirstBlocks.{AreFreeFrom, UsesFirst}
use Rattle.lfs_pack.proofs.CountsKept.{KeepsCount}
use Rattle.lfs_pack.proofs.NoneFreed.{LeadOn, uses_more}
use Rattle.lfs_pack.proofs.Ranges.{filter_from, once_if, take_range, times_range}

pub free_range : (v : Volume) (next : ℕ) → next ≤ v.count → AreFreeFrom v next → free_blocks v ≡ range_with_len next (v.count - next)
free_range v next within free =
    filter_from (λ b. uses b v == 0) 0 v.count next (omega arith) (omega (arith, within)) (λ b lt. free b (omega (arith, lt)))
    ∙ ap (range_with_len next) (let all : 0 + v.count - next ≡ v.count - next = omega arith in all)

-- blocks behind others are free then
free_behind : (b next more n : ℕ) → (n == 0) ≡ nat_le next b → n ≤ 1 → n + once_if (nat_le next b) (nat_le (next + more) b) ≤ 1
    → (n + once_if (nat_le next b) (nat_le (next + more) b) == 0) ≡ nat_le (next + more) b
free_behind b next more n free once all = by (nat_le next b) (nat_le (next + more) b) refl refl
  where
    by : (s t : Bool) → nat_le next b ≡ s → nat_le (next + more) b ≡ t → (n + once_if s t == 0) ≡ t
    by true true h k = grind (arith, nat_tests, free, h)
    by true false h k = grind (arith, nat_tests)
    by false true h k = absurd (grind (arith, nat_tests))
    by false false h k = grind (arith, nat_tests, free, h)

-- ---- one command

module _ (follow : CarriedFollow) (after : UsesAfter) (v w : Volume) (c : Command) (keeps : KeepsCount c) (does : CarriesOut c v w)
    (none : (b : ℕ) → freed_uses v c b ≡ 0) (sound : IsSound w) (n : ℕ) (first : UsesFirst v n) where
  count : w.count ≡ v.count
  unfolding KeepsCount
  count = (follow c v w does).count ∙ keeps v.count

  grown_free : free_blocks (grown c v) ≡ range_with_len n (v.count - n)
  unfolding KeepsCount
  grown_free = ap (λ (k : ℕ). free_blocks (with_count k v)) (keeps v.count) ∙ free_range v n first.within first.free

  enough : need v c ≤ v.count - n
  enough = omega (
    arith,
    enough_free v c does.accepted.unrefused,
    ap (λ (l : List ℕ). length l) grown_free,
    length-range_with_len n (v.count - n),
  )

  uses_are : (b : ℕ) → uses b w ≡ uses b v + once_if (nat_le n b) (nat_le (n + need v c) b)
  uses_are b =
      uses_more after c v w does none b
      ∙ ap (λ (l : List ℕ). uses b v + times b (take (need v c) l)) grown_free
      ∙ ap (λ (l : List ℕ). uses b v + times b l) (take_range n (v.count - n) (need v c) enough)
      ∙ ap (λ (k : ℕ). uses b v + k) (times_range b n (need v c))

  pub one_first : UsesFirst w (n + need v c)
  one_first = record {
    begin = omega (arith, first.begin);
    within = omega (arith, enough, first.within, count);
    free = λ b lt.
        ap (λ (k : ℕ). k == 0) (uses_are b)
        ∙ free_behind b n (need v c) (uses b v) (first.free b (omega (arith, lt, count))) (omega (arith, uses_are b, sound.once b))
        (omega (arith, uses_are b, sound.once b));
  }

-- ---- all of them

pub all_first : CarriedFollow → UsesAfter → (cs : List Command) (v w : Volume) → AllByRecursion KeepsCount cs → LeadOn cs v w → (n : ℕ)
    → UsesFirst v n → (m : ℕ) × UsesFirst w m
all_first follow after [] v w keep is n first = (n, subst (λ (x : Volume). UsesFirst x n) (sym is) first)
all_first follow after (c ∷ cs) v w keep (u, does, none, led) n first =
    all_first follow after cs u w keep.1 led (n + need v c)
    (one_first follow after v u c keep.0 does none (follow c v u does).sound n first)

-- a new volume uses blocks 0 and 1
pub empty_first : (size count : ℕ) (limits : Limits) → 2 ≤ count → UsesFirst (empty_volume size count limits []) 2
empty_first size count limits many = record { begin = omega arith; within = many; free = λ b lt. uses_two b }
  where
    uses_two : (b : ℕ) → (uses b (empty_volume size count limits []) == 0) ≡ nat_le 2 b
    uses_two b = grind (arith, nat_tests)
