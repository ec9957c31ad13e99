-- What rows take with those below them.
use Rattle.std.proofs.Common.{◌≡◌, ℕ, ◌+◌, ◌-◌, ◌<◌, ◌≤◌, Bool, true, false, List, [], ◌∷◌, cond, drop, drop-cons, get_or, length, refl, ap, sym, subst, ◌∙◌}
use Rattle.std.proofs.Common.{arith, inl, inr, zero, suc}
use Rattle.std.specs.Prelude.{nat_lt, slice_index, sum}
use Rattle.std.proofs.lemmas.Bool.{cases_eq, cases_lt}
use Rattle.std.proofs.lemmas.Bool.Decides.{nat_tests}
use Rattle.std.proofs.lemmas.List.{drop_all}
use Rattle.std.proofs.lemmas.List.Sums.{sum_by-cons, sum_by-drop_more, sum_by-take-drop}
use Rattle.lfs_listing.specs.Summing.{AreDeeper, IsNext, deeper_sum, depth_sum}

-- what is deeper than a depth, from a row on
abbrev deeper_from : List ℕ → List ℕ → ℕ → ℕ → ℕ
deeper_from ds cs depth i = deeper_sum depth (drop i ds) (drop i cs)

at_row : (xs : List ℕ) (i : ℕ) → i < length xs → drop i xs ≡ get_or xs i 0 ∷ drop (i + 1) xs
at_row xs i within = let next : suc i ≡ i + 1 = omega arith in drop-cons xs i 0 within ∙ ap (λ (k : ℕ). get_or xs i 0 ∷ drop k xs) next

-- a row that is deeper, and one that isn't
goes_by : (b : Bool) (depth d c n : ℕ) → nat_lt depth d ≡ b → depth < d → cond b (c + n) 0 ≡ c + n
goes_by true depth d c n is deeper = refl
goes_by false depth d c n is deeper = absurd (grind (arith, nat_tests))

stops_by : (b : Bool) (depth d n : ℕ) → nat_lt depth d ≡ b → d ≤ depth → cond b n 0 ≡ 0
stops_by true depth d n is above = absurd (grind (arith, nat_tests))
stops_by false depth d n is above = refl

from_row : (ds cs : List ℕ) (depth i : ℕ) → i < length ds → length cs ≡ length ds
    → deeper_from ds cs depth i ≡ cond (nat_lt depth (get_or ds i 0)) (get_or cs i 0 + deeper_from ds cs depth (i + 1)) 0
from_row ds cs depth i within same =
    ap (λ (xs : List ℕ). deeper_sum depth xs (drop i cs)) (at_row ds i within)
    ∙ ap (λ (xs : List ℕ). deeper_sum depth (get_or ds i 0 ∷ drop (i + 1) ds) xs) (at_row cs i (omega arith))

goes_on : (ds cs : List ℕ) (depth i : ℕ) → i < length ds → length cs ≡ length ds → depth < get_or ds i 0
    → deeper_from ds cs depth i ≡ get_or cs i 0 + deeper_from ds cs depth (i + 1)
goes_on ds cs depth i within same deeper =
    from_row ds cs depth i within same
    ∙ goes_by (nat_lt depth (get_or ds i 0)) depth (get_or ds i 0) (get_or cs i 0) (deeper_from ds cs depth (i + 1)) refl deeper

stops : (ds cs : List ℕ) (depth i : ℕ) → i < length ds → length cs ≡ length ds → get_or ds i 0 ≤ depth → deeper_from ds cs depth i ≡ 0
stops ds cs depth i within same above =
    from_row ds cs depth i within same
    ∙ stops_by (nat_lt depth (get_or ds i 0)) depth (get_or ds i 0) (get_or cs i 0 + deeper_from ds cs depth (i + 1)) refl above

none_left : (ds cs : List ℕ) (depth i : ℕ) → length ds ≤ i → deeper_from ds cs depth i ≡ 0
none_left ds cs depth i over = ap (λ (xs : List ℕ). deeper_sum depth xs (drop i cs)) (drop_all i ds over)

pub nothing_deeper : (ds cs : List ℕ) (depth i : ℕ) → length cs ≡ length ds → (i < length ds → get_or ds i 0 ≤ depth)
    → deeper_from ds cs depth i ≡ 0
nothing_deeper ds cs depth i same ends = elim (cases_lt i (length ds)) [
  | inl within ↦ stops ds cs depth i within same (ends within)
  | inr over ↦ none_left ds cs depth i over
]

-- so many counts
abbrev counts_of : List ℕ → ℕ → ℕ → ℕ
counts_of cs i zero = 0
counts_of cs i (suc n) = get_or cs i 0 + counts_of cs (i + 1) n

-- where so many rows are deeper
all_deeper : (ds cs : List ℕ) (depth n i : ℕ) → i + n ≤ length ds → length cs ≡ length ds
    → ((k : ℕ) → i ≤ k → k < i + n → depth < get_or ds k 0) → deeper_from ds cs depth i ≡ counts_of cs i n + deeper_from ds cs depth (i + n)
all_deeper ds cs depth zero i within same deeper =
    let here : i + 0 ≡ i = omega arith in omega (arith, ap (deeper_from ds cs depth) here)
all_deeper ds cs depth (suc n) i within same deeper =
    let there : i + 1 + n ≡ i + suc n = omega arith in
    omega (
      arith,
      goes_on ds cs depth i (omega arith) same (deeper i (omega arith) (omega arith)),
      all_deeper ds cs depth n (i + 1) (omega arith) same (λ k from to. deeper k (omega arith) (omega arith)),
      ap (deeper_from ds cs depth) there,
    )

-- the rows below one that is deeper are passed over
pub passed_over : (ds cs : List ℕ) (depth i j : ℕ) → i < length ds → length cs ≡ length ds → depth < slice_index ds i → IsNext ds i j
    → deeper_from ds cs depth i ≡ depth_sum ds cs i + deeper_from ds cs depth j
passed_over ds cs depth i j within same deeper next =
    let n : ℕ = j - (i + 1) in
    let there : i + 1 + n ≡ j = omega (arith, next.later) in
    let below : deeper_from ds cs (get_or ds i 0) (i + 1) ≡ counts_of cs (i + 1) n + deeper_from ds cs (get_or ds i 0) (i + 1 + n) =
    all_deeper ds cs (get_or ds i 0) n (i + 1) (omega (arith, next.within, there)) same (λ k from to.
    next.deeper k (omega arith) (omega (arith, there))) in
    let none : deeper_from ds cs (get_or ds i 0) (i + 1 + n) ≡ 0 =
    ap (deeper_from ds cs (get_or ds i 0)) there ∙ nothing_deeper ds cs (get_or ds i 0) j same next.ends in
    let all : deeper_from ds cs depth (i + 1) ≡ counts_of cs (i + 1) n + deeper_from ds cs depth (i + 1 + n) =
    all_deeper ds cs depth n (i + 1) (omega (arith, next.within, there)) same (λ k from to.
    omega (arith, deeper, next.deeper k (omega arith) (omega (arith, there)))) in
    omega (arith, goes_on ds cs depth i within same deeper, below, none, all, ap (deeper_from ds cs depth) there)

-- ---- sums fit

deeper_le : (depth : ℕ) (ds cs : List ℕ) → deeper_sum depth ds cs ≤ sum cs
deeper_le depth [] cs = omega arith
deeper_le depth (d ∷ ds) [] = omega arith
deeper_le depth (d ∷ ds) (c ∷ cs) = by (nat_lt depth d) (deeper_le depth ds cs) (sum_by-cons (λ (x : ℕ). x) c cs)
  where
    by : (b : Bool) → deeper_sum depth ds cs ≤ sum cs → sum (c ∷ cs) ≡ c + sum cs → cond b (c + deeper_sum depth ds cs) 0 ≤ sum (c ∷ cs)
    by true le is = omega arith
    by false le is = omega arith

pub sum_fits : (ds cs : List ℕ) (i : ℕ) → i < length cs → depth_sum ds cs i ≤ sum cs
sum_fits ds cs i within = omega (
  arith,
  deeper_le (get_or ds i 0) (drop (i + 1) ds) (drop (i + 1) cs),
  sum_by-drop_more (λ (x : ℕ). x) cs i 0 within,
  sum_by-take-drop (λ (x : ℕ). x) cs i,
)

-- ---- one row after another, the last one first

pub deeper_more : (ds : List ℕ) (row next after : ℕ) → AreDeeper ds row next → slice_index ds row < slice_index ds next → IsNext ds next after
    → AreDeeper ds row after
deeper_more ds row next after above deeper h k from to = elim (cases_lt k next) [
  | inl before ↦ above k from before
  | inr behind ↦ elim (cases_eq k next) [
    | inl is ↦ subst (λ (i : ℕ). slice_index ds row < slice_index ds i) (sym is) deeper
    | inr other ↦ let less : next < k = omega (arith, behind, other) in omega (arith, deeper, h.deeper k less to)
  ]
]
