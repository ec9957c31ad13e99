-- Which blocks changes name that are laid over others.
use Rattle.std.proofs.Common.{◌≡◌, ◌⊎◌, ℕ, zero, suc, List, [], ◌∷◌, map, subst, arith, inl, inr}
use Rattle.std.specs.List.{Contains}
use Rattle.lfs_block.specs.Change.{Change}
use Rattle.lfs_journal.specs.Joined.{laid, laid_over}
use Rattle.lfs_journal.specs.JointLaws.{ComposedNames}
use Rattle.lfs_journal.proofs.LaidLemmas.{Into, Before, Behind, goes}

abbrev numbers : List Change → List ℕ
numbers cs = map (λ (c : Change). c.number) cs

contains-head : (m : ℕ) (ns : List ℕ) (n : ℕ) → m ≡ n → Contains (m ∷ ns) n
contains-head m ns n is = (0, omega arith, is)

contains-rest : (m : ℕ) (ns : List ℕ) (n : ℕ) → Contains ns n → Contains (m ∷ ns) n
contains-rest m ns n (k, within, is) = (suc k, omega (arith, within), is)

contains-cases : (m : ℕ) (ns : List ℕ) (n : ℕ) → Contains (m ∷ ns) n → (m ≡ n) ⊎ Contains ns n
contains-cases m ns n (zero, within, is) = inl is
contains-cases m ns n (suc k, within, is) = inr (k, omega (arith, within), is)

laid-names : (cs : List Change) (d : Change) (n : ℕ) → Contains (numbers (laid cs d)) n → (d.number ≡ n) ⊎ Contains (numbers cs) n
laid-names [] d n has = contains-cases d.number [] n has
laid-names (c ∷ cs) d n has =
    elim (goes c cs d) [
      | Into same is ↦ inr (subst (λ (es : List Change). Contains (numbers es) n) is has)
      | Before less is ↦ contains-cases d.number (numbers (c ∷ cs)) n (subst (λ (es : List Change). Contains (numbers es) n) is has)
      | Behind more is ↦
          elim (contains-cases c.number (numbers (laid cs d)) n (subst (λ (es : List Change). Contains (numbers es) n) is has)) [
            | inl here ↦ inr (contains-head c.number (numbers cs) n here)
            | inr rest ↦ elim (laid-names cs d n rest) [
              | inl that ↦ inl that
              | inr those ↦ inr (contains-rest c.number (numbers cs) n those)
            ]
          ]
    ]

laid_over-names : (cs ds : List Change) (n : ℕ) → Contains (numbers (laid_over cs ds)) n
    → Contains (numbers cs) n ⊎ Contains (numbers ds) n
laid_over-names cs [] n has = inl has
laid_over-names cs (d ∷ ds) n has =
    elim (laid_over-names (laid cs d) ds n has) [
      | inl those ↦ elim (laid-names cs d n those) [
        | inl that ↦ inr (contains-head d.number (numbers ds) n that)
        | inr these ↦ inl these
      ]
      | inr rest ↦ inr (contains-rest d.number (numbers ds) n rest)
    ]

pub composed-names : ComposedNames
composed-names p q n has = laid_over-names p.changes q.changes n has
