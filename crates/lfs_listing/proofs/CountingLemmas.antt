-- Blocks counted by their rows.
use Rattle.std.proofs.Common.{◌≡◌, ℕ, ◌+◌, ◌<◌, ◌≤◌, ◌^◌, Bool, true, false, List, [], ◌∷◌, Option, Some, None, cond, get_or, length, replicate, set, take, refl, ap, ◌∙◌}
use Rattle.std.proofs.Common.{arith, zero, suc, length-set}
use Rattle.std.specs.Prelude.{IfSome, slice_index, sum}
use Rattle.std.specs.Option.{option_map_or}
use Rattle.std.proofs.lemmas.List.{length-take-le}
use Rattle.std.proofs.lemmas.List.Sums.{count_by-le-length, sum_by-cons, sum_by_more}
use Rattle.lfs_listing.specs.Summing.{AreCounts, counted, weigh}

weigh_zeros_by : (b : Bool) (n : ℕ) → n ≡ 0 → cond b 0 0 + n ≡ 0
weigh_zeros_by true n is = omega arith
weigh_zeros_by false n is = omega arith

weigh_zeros : (passes : ℕ → Bool) (number n : ℕ) → weigh passes number (replicate n 0) ≡ 0
weigh_zeros passes number zero = refl
weigh_zeros passes number (suc n) = weigh_zeros_by (passes number) _ (weigh_zeros passes (number + 1) n)

first_by : (b : Bool) (c n : ℕ) → cond b (c + 1) 0 + n ≡ cond b c 0 + n + cond b 1 0
first_by true c n = omega arith
first_by false c n = omega arith

-- one more block of a row
weigh_set : (passes : ℕ → Bool) (number : ℕ) (cs : List ℕ) (i : ℕ) → i < length cs
    → weigh passes number (set cs i (get_or cs i 0 + 1)) ≡ weigh passes number cs + cond (passes (number + i)) 1 0
weigh_set passes number [] i within = absurd (omega arith)
weigh_set passes number (c ∷ cs) zero within =
    let same : number ≡ number + 0 = omega arith in
    first_by (passes number) c (weigh passes (number + 1) cs)
    ∙ ap (λ (k : ℕ). cond (passes number) c 0 + weigh passes (number + 1) cs + cond (passes k) 1 0) same
weigh_set passes number (c ∷ cs) (suc i) within =
    let same : number + 1 + i ≡ number + suc i = omega arith in
    omega (arith, weigh_set passes (number + 1) cs i (omega arith), ap (λ (k : ℕ). cond {A = ℕ} (passes k) 1 0) same)

weigh_counted : (passes : ℕ → Bool) (cs : List ℕ) (u : Option ℕ) → IfSome u (λ row. row < length cs)
    → weigh passes 0 (counted cs u) ≡ weigh passes 0 cs + cond (option_map_or passes u false) 1 0
weigh_counted passes cs None within = omega arith
weigh_counted passes cs (Some i) within =
    let same : 0 + i ≡ i = omega arith in
    weigh_set passes 0 cs i within ∙ ap (λ (k : ℕ). weigh passes 0 cs + cond (passes k) 1 0) same

length_counted : (cs : List ℕ) (u : Option ℕ) → length (counted cs u) ≡ length cs
length_counted cs None = refl
length_counted cs (Some i) = length-set cs i (get_or cs i 0 + 1)

pub counted_none : (rows : ℕ) (cs : List ℕ) → length cs ≡ rows → cs ≡ replicate rows 0 → AreCounts [] rows cs
counted_none rows cs len none = record { len = len; are = λ passes. ap (weigh passes 0) none ∙ weigh_zeros passes 0 rows }

pub counted_more : (us : List (Option ℕ)) (k rows : ℕ) (old new : List ℕ) (u : Option ℕ) → k < length us → u ≡ get_or us k None
    → IfSome u (λ row. row < length old) → new ≡ counted old u → AreCounts (take k us) rows old → AreCounts (take (k + 1) us) rows new
counted_more us k rows old new u within at inside is h = record {
  len = ap length is ∙ length_counted old u ∙ h.len;
  are = λ passes.
      let more = sum_by_more (λ (w : Option ℕ). cond {A = ℕ} (option_map_or passes w false) 1 0) us k None within in
      let here = ap (λ (w : Option ℕ). cond {A = ℕ} (option_map_or passes w false) 1 0) at in
      omega (arith, more, here, weigh_counted passes old u inside, h.are passes, ap (weigh passes 0) is);
}

least_of : (number : ℕ) (cs : List ℕ) (i : ℕ) → get_or cs i 0 ≤ weigh (λ (k : ℕ). true) number cs
least_of number [] i = omega arith
least_of number (c ∷ cs) zero = omega arith
least_of number (c ∷ cs) (suc i) = omega (arith, least_of (number + 1) cs i)

-- a count is at most the number of the blocks so far
pub count_le : (us : List (Option ℕ)) (rows : ℕ) (cs : List ℕ) (i : ℕ) → AreCounts us rows cs → get_or cs i 0 ≤ length us
count_le us rows cs i h = omega (
  arith,
  least_of 0 cs i,
  h.are (λ (k : ℕ). true),
  count_by-le-length (λ (u : Option ℕ). option_map_or (λ (k : ℕ). true) u false) us,
)

-- one more fits
pub few_more : (us : List (Option ℕ)) (k rows : ℕ) (cs : List ℕ) (u : Option ℕ) → k < length us → length us < 2 ^ 32
    → AreCounts (take k us) rows cs → IfSome u (λ row. slice_index cs row + 1 < 2 ^ 32)
few_more us k rows cs None within few h = tt
few_more us k rows cs (Some i) within few h = omega (arith, count_le (take k us) rows cs i h, length-take-le k us (omega arith))

-- all counts together are at most the number of the blocks
all_counted : (number : ℕ) (cs : List ℕ) → sum cs ≡ weigh (λ (k : ℕ). true) number cs
all_counted number [] = refl
all_counted number (c ∷ cs) = omega (arith, sum_by-cons (λ (x : ℕ). x) c cs, all_counted (number + 1) cs)

pub sum_le : (us : List (Option ℕ)) (rows : ℕ) (cs : List ℕ) → AreCounts us rows cs → sum cs ≤ length us
sum_le us rows cs h = omega (
  arith,
  all_counted 0 cs,
  h.are (λ (k : ℕ). true),
  count_by-le-length (λ (u : Option ℕ). option_map_or (λ (k : ℕ). true) u false) us,
)
