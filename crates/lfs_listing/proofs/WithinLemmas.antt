-- Paths below one another, and the rows below a path.
use Rattle.std.proofs.Common.{◌≡◌, ◌⊎◌, ℕ, ◌<◌, ◌≤◌, Bool, true, false, [], ◌∷◌, ◌++◌, length, take, refl, ap, sym, subst, ◌∙◌}
use Rattle.std.proofs.Common.{arith, inl, inr, zero, suc, append_assoc, append-nil, length-append, length-take}
use Rattle.std.specs.Prelude.{◌&&◌, bytes_eq, if◌then◌else◌}
use Rattle.std.proofs.lemmas.Slice.Eq.{bytes_eq-Decides}
use Rattle.lfs_meta.specs.Name.{Name}
use Rattle.lfs_fs.specs.Listed.{path_after}
use Rattle.lfs_fs.specs.NameOrder.{precedes}
use Rattle.lfs_fs.specs.Path.{Path}
use Rattle.lfs_fs.specs.Row.{path_precedes}
use Rattle.lfs_fs.proofs.NameOrderLemmas.{precedes_irreflexive, precedes_transitive}
use Rattle.lfs_fs.proofs.PathOrderLemmas.{path_irreflexive}
use Rattle.lfs_listing.specs.BlockSums.{is_within}

same_name : (n : Name) → bytes_eq n n ≡ true
same_name n = (bytes_eq-Decides n n).1 refl

both_true : (a b : Bool) → a && b ≡ true → (a ≡ true) × (b ≡ true)
both_true true b is = (refl, is)
both_true false b is = absurd (let bad : false ≡ true = is in cc)

-- what is below begins so
split : (p q : Path) → is_within p q ≡ true → (rest : Path) × (q ≡ p ++ rest)
split [] q is = (q, refl)
split (n ∷ p) [] is = absurd (let bad : false ≡ true = is in cc)
split (n ∷ p) (m ∷ q) is =
    let both = both_true (bytes_eq n m) (is_within p q) is in
    let same : n ≡ m = (bytes_eq-Decides n m).0 both.0 in
    let rest = split p q both.1 in
    (rest.0, ap (λ (x : Name). x ∷ q) (sym same) ∙ ap (λ (x : Path). n ∷ x) rest.1)

joined : (p rest : Path) → is_within p (p ++ rest) ≡ true
joined [] rest = refl
joined (n ∷ p) rest = ap (λ (b : Bool). b && is_within p (p ++ rest)) (same_name n) ∙ joined p rest

pub within_itself : (p : Path) → is_within p p ≡ true
within_itself p = ap (is_within p) (sym (append-nil p)) ∙ joined p []

within_longer : (p q more : Path) → is_within p q ≡ true → is_within p (q ++ more) ≡ true
within_longer p q more is =
    let rest = split p q is in
    ap (λ (x : Path). is_within p (x ++ more)) rest.1 ∙ ap (is_within p) (append_assoc p rest.0 more) ∙ joined p (rest.0 ++ more)

within_front : (p q : Path) (k : ℕ) → is_within p q ≡ true → length p ≤ k → is_within p (take k q) ≡ true
within_front [] q k is few = refl
within_front (n ∷ p) [] k is few = absurd (let bad : false ≡ true = is in cc)
within_front (n ∷ p) (m ∷ q) zero is few = absurd (omega arith)
within_front (n ∷ p) (m ∷ q) (suc k) is few =
    let both = both_true (bytes_eq n m) (is_within p q) is in
    ap (λ (b : Bool). b && is_within p (take k q)) both.0 ∙ within_front p q k both.1 (omega arith)

-- the next path is below one that the last was below, if it is deeper
pub within_next : (p q : Path) (depth : ℕ) (n : Name) → is_within p q ≡ true → length p < length (path_after q depth n)
    → is_within p (path_after q depth n) ≡ true
within_next p q zero n is deeper = absurd (omega arith)
within_next p q (suc k) n is deeper =
    let few : length p ≤ k = omega (arith, length-append (take k q) (n ∷ []), length-take k q) in
    within_longer p (take k q) (n ∷ []) (within_front p q k is few)

empty_by : (xs : Path) → length xs ≤ 0 → xs ≡ []
empty_by [] few = refl
empty_by (x ∷ xs) few = absurd (omega arith)

-- what is below another path and no deeper is that path
within_same : (p q : Path) → is_within p q ≡ true → length q ≤ length p → p ≡ q
within_same p q is few =
    let rest = split p q is in
    let none : rest.0 ≡ [] = empty_by rest.0 (omega (arith, ap length rest.1, length-append p rest.0)) in
    sym (append-nil p) ∙ ap (λ (x : Path). p ++ x) (sym none) ∙ sym rest.1

by_bool : (b : Bool) → (b ≡ true → ⊥) → b ≡ false
by_bool true never = absurd (never refl)
by_bool false never = refl

-- a path behind another one that is no deeper isn't below it
pub above_not_within : (p q : Path) → path_precedes p q ≡ true → length q ≤ length p → is_within p q ≡ false
above_not_within p q before few = by_bool (is_within p q) (λ is.
    let same : p ≡ q = within_same p q is few in
    let bad : path_precedes p p ≡ true = ap (path_precedes p) same ∙ before in
    absurd (let no = path_irreflexive p in cc))

cases_by : (same : Bool) (n m : Name) (p q : Path) → (same ≡ true → n ≡ m) → (if same then path_precedes p q else precedes n m) ≡ true
    → ((n ≡ m) × (path_precedes p q ≡ true)) ⊎ (precedes n m ≡ true)
cases_by true n m p q is before = inl (is refl, before)
cases_by false n m p q is before = inr before

cases_of : (n m : Name) (p q : Path) → path_precedes (n ∷ p) (m ∷ q) ≡ true → ((n ≡ m) × (path_precedes p q ≡ true)) ⊎ (precedes n m ≡ true)
cases_of n m p q before = cases_by (bytes_eq n m) n m p q (bytes_eq-Decides n m).0 before

never_before_itself : (n m : Name) → n ≡ m → precedes n m ≡ true → ⊥
never_before_itself n m same before =
    absurd (let bad : precedes n n ≡ true = ap (precedes n) same ∙ before in let no = precedes_irreflexive n in cc)

-- nothing below a path comes before it
not_before : (p rest : Path) → path_precedes (p ++ rest) p ≡ true → ⊥
not_before [] [] before = absurd (let bad : false ≡ true = before in cc)
not_before [] (n ∷ rest) before = absurd (let bad : false ≡ true = before in cc)
not_before (n ∷ p) rest before = elim (cases_of n n (p ++ rest) p before) [
  | inl later ↦ not_before p rest later.1
  | inr first ↦ never_before_itself n n refl first
]

pub before_not_within : (p q : Path) → path_precedes q p ≡ true → is_within p q ≡ false
before_not_within p q before = by_bool (is_within p q) (λ is.
    let rest = split p q is in
    not_before p rest.0 (subst (λ (x : Path). path_precedes x p ≡ true) rest.1 before))

between_by : (n m : Name) (p q rest : Path) → ((n ≡ m) × (path_precedes p q ≡ true)) ⊎ (precedes n m ≡ true)
    → ((m ≡ n) × (path_precedes q (p ++ rest) ≡ true)) ⊎ (precedes m n ≡ true)
    → (path_precedes p q ≡ true → path_precedes q (p ++ rest) ≡ true → is_within p q ≡ true) → is_within (n ∷ p) (m ∷ q) ≡ true
between_by n m p q rest (inl h) (inl k) later =
    ap (λ (b : Bool). b && is_within p q) ((bytes_eq-Decides n m).1 h.0) ∙ later h.1 k.1
between_by n m p q rest (inl h) (inr k) later = absurd (never_before_itself m n (sym h.0) k)
between_by n m p q rest (inr h) (inl k) later = absurd (never_before_itself n m (sym k.0) h)
between_by n m p q rest (inr h) (inr k) later = absurd (never_before_itself n n refl (precedes_transitive n m n h k))

-- what stands between a path and one below it is below it
between : (p q rest : Path) → path_precedes p q ≡ true → path_precedes q (p ++ rest) ≡ true → is_within p q ≡ true
between [] q rest first then' = refl
between (n ∷ p) [] rest first then' = absurd (let bad : false ≡ true = first in cc)
between (n ∷ p) (m ∷ q) rest first then' =
    between_by n m p q rest (cases_of n m p q first) (cases_of m n q (p ++ rest) then') (between p q rest)

-- behind a path that isn't below another one nothing is
pub behind_not_within : (p q r : Path) → path_precedes p q ≡ true → path_precedes q r ≡ true → is_within p q ≡ false → is_within p r ≡ false
behind_not_within p q r first then' out = by_bool (is_within p r) (λ is.
    let rest = split p r is in
    let bad : is_within p q ≡ true = between p q rest.0 first (subst (λ (x : Path). path_precedes q x ≡ true) rest.1 then') in
    absurd (cc))
