-- The change of a block among changes whose numbers rise.
use Rattle.std.proofs.Common.{◌≡◌, ◌≢◌, ℕ, zero, suc, ◌<◌, ◌≤◌, ◌==◌, true, false, nat_lt, List, [], ◌∷◌, length, Option}
use Rattle.std.proofs.Common.{Some, None}
use Rattle.std.proofs.Common.{slice_index_or, refl, ap, sym, ◌∙◌, arith, inl, inr}
use Rattle.std.specs.List.Sorted.{IsPartitionedBy, IsPartitionPoint}
use Rattle.std.proofs.lemmas.Bool.{cases_eq, cond-true, cond-false, eq-eqb, ne_eqb}
use Rattle.std.proofs.lemmas.Bool.Decides.{nat_tests}
use Rattle.std.proofs.lemmas.List.Elements.{All-from_recursion}
use Rattle.lfs_block.specs.Change.{Change, IsRising, change_of, overlaid}

pub change-here : (c : Change) (cs : List Change) (n : ℕ) → c.number ≡ n → change_of n (c ∷ cs) ≡ Some c
change-here c cs n same = cond-true (c.number == n) (Some c) (change_of n cs) (eq-eqb c.number n same)

pub change-past : (c : Change) (cs : List Change) (n : ℕ) → c.number ≢ n → change_of n (c ∷ cs) ≡ change_of n cs
change-past c cs n other = cond-false (c.number == n) (Some c) (change_of n cs) (ne_eqb c.number n other)

-- where all numbers before a place are less than the one there
pub change-found : (cs : List Change) (n i : ℕ) (d : Change) → ((k : ℕ) → k < i → (slice_index_or cs k d).number < n) → i < length cs
    → (slice_index_or cs i d).number ≡ n → change_of n cs ≡ Some (slice_index_or cs i d)
change-found [] n i d before within is = absurd (omega (arith, within))
change-found (c ∷ cs) n zero d before within is = change-here c cs n is
change-found (c ∷ cs) n (suc i) d before within is =
    let first : c.number < n = before 0 (omega arith) in
    change-past c cs n (λ same. absurd (omega (arith, first, same)))
    ∙ change-found cs n i d (λ k less. before (suc k) (omega (arith, less))) (omega (arith, within)) is

-- where no number is n
pub change-missing : (cs : List Change) (n : ℕ) (d : Change) → ((k : ℕ) → k < length cs → (slice_index_or cs k d).number ≢ n)
    → change_of n cs ≡ None
change-missing [] n d other = refl
change-missing (c ∷ cs) n d other =
    change-past c cs n (other 0 (omega arith)) ∙ change-missing cs n d (λ k less. other (suc k) (omega (arith, less)))

rising-less : (cs : List Change) (i j : ℕ) (d : Change) → IsRising cs → i < j → j < length cs
    → (slice_index_or cs i d).number < (slice_index_or cs j d).number
rising-less [] i j d rising less within = absurd (omega (arith, within))
rising-less (c ∷ cs) i zero d rising less within = absurd (omega (arith, less))
rising-less (c ∷ cs) zero (suc j) d rising less within =
    All-from_recursion (λ e. c.number < e.number) cs rising.0 j d (omega (arith, within))
rising-less (c ∷ cs) (suc i) (suc j) d rising less within = rising-less cs i j d rising.1 (omega (arith, less)) (omega (arith, within))

same-place : (cs : List Change) (i j : ℕ) (d : Change) → i ≡ j → (slice_index_or cs i d).number ≡ (slice_index_or cs j d).number
same-place cs i j d is = ap (λ (k : ℕ). (slice_index_or cs k d).number) is

rising-most : (cs : List Change) (i j : ℕ) (d : Change) → IsRising cs → i ≤ j → j < length cs
    → (slice_index_or cs i d).number ≤ (slice_index_or cs j d).number
rising-most cs i j d rising le within = elim (cases_eq i j) [
  | inl same ↦ let is = same-place cs i j d same in omega (arith, is)
  | inr other ↦
      let less : i < j = omega (arith, le, other) in
      let is = rising-less cs i j d rising less within in
      omega (arith, is)
]

-- changes that rise are parted by any number
pub rising-parted : (cs : List Change) (n : ℕ) → IsRising cs → IsPartitionedBy (λ c. nat_lt c.number n) cs
rising-parted cs n rising i j d le within up =
    let most = rising-most cs i j d rising le within in
    grind (arith, nat_tests, most, up)

-- what a place that parts the changes says of the numbers
pub record IsPoint (cs : List Change) (n i : ℕ) : Type 0 where
  pub before : (k : ℕ) (d : Change) → k < i → (slice_index_or cs k d).number < n
  pub behind : (k : ℕ) (d : Change) → i ≤ k → k < length cs → n ≤ (slice_index_or cs k d).number

pub point-of : (cs : List Change) (n i : ℕ) → IsPartitionPoint (λ c. nat_lt c.number n ≡ true) (λ c. nat_lt c.number n ≡ false) cs i
    → IsPoint cs n i
point-of cs n i point = record {
  before = λ k d less. let up = point.0 k d (omega arith) less in grind (arith, nat_tests, up);
  behind = λ k d le within. let down = point.1 k d le within in grind (arith, nat_tests, down);
}

-- no change stands behind the point
pub missing-past : (cs : List Change) (n i : ℕ) (d : Change) → IsPoint cs n i → length cs ≤ i → change_of n cs ≡ None
missing-past cs n i d point past =
    change-missing cs n d (λ k within same. let less = point.before k d (omega (arith, past, within)) in absurd (omega (arith, less, same)))

-- another change stands at the point
pub missing-at : (cs : List Change) (n i : ℕ) (d : Change) → IsRising cs → IsPoint cs n i → i < length cs
    → (slice_index_or cs i d).number ≢ n → change_of n cs ≡ None
missing-at cs n i d rising point within other =
    change-missing cs n d (λ k has same. elim (cases_eq k i) [
      | inl is ↦ other (sym (same-place cs k i d is) ∙ same)
      | inr apart ↦
          let here = point.behind i d (omega arith) within in
          let more : k < i → ⊥ = λ less. (let before = point.before k d less in absurd (omega (arith, before, same))) in
          let past : i < k = omega (arith, more, apart) in
          let later = rising-less cs i k d rising past has in
          absurd (omega (arith, here, later, same))
    ])

-- the change of n stands at the point
pub found-at : (cs : List Change) (n i : ℕ) (d : Change) → IsPoint cs n i → i < length cs → (slice_index_or cs i d).number ≡ n
    → change_of n cs ≡ Some (slice_index_or cs i d)
found-at cs n i d point within is = change-found cs n i d (λ k less. point.before k d less) within is

-- ---- what a block holds, by its change

abbrev pub held_by : Option Change → List ℕ → List ℕ
held_by None below = below
held_by (Some c) below = c.new

pub overlaid-by : (cs : List Change) (n : ℕ) (below : List ℕ) → (found : Option Change) → change_of n cs ≡ found
    → overlaid cs n below ≡ held_by found below
overlaid-by cs n below found is = overlaid-held cs n below ∙ ap (λ (o : Option Change). held_by o below) is
  where
    overlaid-held : (cs : List Change) (n : ℕ) (below : List ℕ) → overlaid cs n below ≡ held_by (change_of n cs) below
    overlaid-held [] n below = refl
    overlaid-held (c ∷ cs) n below = elim (cases_eq c.number n) [
      | inl same ↦ cond-true (c.number == n) c.new (overlaid cs n below) (eq-eqb c.number n same)
          ∙ sym (ap (λ (o : Option Change). held_by o below) (change-here c cs n same))
      | inr other ↦ cond-false (c.number == n) c.new (overlaid cs n below) (ne_eqb c.number n other)
          ∙ overlaid-held cs n below
          ∙ sym (ap (λ (o : Option Change). held_by o below) (change-past c cs n other))
    ]
