-- A change is laid at the place that parts those before it from those behind it.
use Rattle.std.proofs.Common.{◌≡◌, ◌≢◌, ℕ, ◌<◌, ◌≤◌, zero, suc, List, [], ◌∷◌, length, slice_index_or, slice_set, refl, ap, sym, ◌∙◌, arith}
use Rattle.std.specs.List.{insert}
use Rattle.lfs_block.specs.Change.{Change}
use Rattle.lfs_block.proofs.ChangeLemmas.{IsPoint}
use Rattle.lfs_journal.specs.Joined.{joined, laid}
use Rattle.lfs_journal.proofs.LaidLemmas.{laid-same, laid-less, laid-more}

-- the point of all but the first
point-rest : (c : Change) (cs : List Change) (n i : ℕ) → IsPoint (c ∷ cs) n (suc i) → IsPoint cs n i
point-rest c cs n i point = record {
  before = λ k d less. point.before (suc k) d (omega (arith, less));
  behind = λ k d most within. point.behind (suc k) d (omega (arith, most)) (omega (arith, within));
}

-- into the change of its block, which stands at the point
pub laid-into : (cs : List Change) (d e : Change) (i : ℕ) → IsPoint cs d.number i → i < length cs
    → (slice_index_or cs i e).number ≡ d.number → slice_set cs i (joined (slice_index_or cs i e) d) ≡ laid cs d
laid-into [] d e i point within same = absurd (omega (arith, within))
laid-into (c ∷ cs) d e zero point within same = sym (laid-same c cs d same)
laid-into (c ∷ cs) d e (suc i) point within same =
    let first : c.number < d.number = point.before 0 c (omega arith) in
    ap (λ (es : List Change). c ∷ es) (laid-into cs d e i (point-rest c cs d.number i point) (omega (arith, within)) same)
    ∙ sym (laid-more c cs d first)

-- else before what stands there
pub laid-between : (cs : List Change) (d e : Change) (i : ℕ) → IsPoint cs d.number i → i ≤ length cs
    → (i < length cs → (slice_index_or cs i e).number ≢ d.number) → insert cs i d ≡ laid cs d
laid-between [] d e zero point within other = refl
laid-between [] d e (suc i) point within other = absurd (omega (arith, within))
laid-between (c ∷ cs) d e zero point within other =
    let most : d.number ≤ c.number = point.behind 0 c (omega arith) (omega arith) in
    let apart : c.number ≢ d.number = other (omega arith) in
    let less : d.number < c.number = omega (arith, most, apart) in
    sym (laid-less c cs d less)
laid-between (c ∷ cs) d e (suc i) point within other =
    let first : c.number < d.number = point.before 0 c (omega arith) in
    ap (λ (es : List Change). c ∷ es) (laid-between cs d e i (point-rest c cs d.number i point) (omega (arith, within))
    (λ less. other (omega (arith, less))))
    ∙ sym (laid-more c cs d first)
