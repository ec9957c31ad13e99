-- Paths are in a strict total order.
use Rattle.std.proofs.Common.{◌≡◌, ◌≢◌, ◌⊎◌, Bool, true, false, [], ◌∷◌, refl, ap, ◌∙◌}
use Rattle.std.specs.Prelude.{bytes_eq, if◌then◌else◌}
use Rattle.std.proofs.lemmas.Slice.Eq.{bytes_eq-Decides}
use mathlib.Core.Logic.{inl, inr}
use Rattle.lfs_meta.specs.Name.{Name}
use Rattle.lfs_fs.specs.NameOrder.{precedes}
use Rattle.lfs_fs.specs.Path.{Path}
use Rattle.lfs_fs.specs.Row.{path_precedes, PathsAreOrdered}
use Rattle.lfs_fs.proofs.NameOrderLemmas.{precedes_irreflexive, precedes_transitive, precedes_compares}

-- paths that begin with the same name are as their rests
same_first : (n m : Name) (p q : Path) → n ≡ m → path_precedes (n ∷ p) (m ∷ q) ≡ path_precedes p q
same_first n m p q same = ap (λ (b : Bool). if b then path_precedes p q else precedes n m) ((bytes_eq-Decides n m).1 same)

decided_by_names : (same : Bool) (n m : Name) (p q : Path) → (same ≡ true → n ≡ m) → precedes n m ≡ true
    → (if same then path_precedes p q else precedes n m) ≡ true
decided_by_names true n m p q is before = let equal : n ≡ m = is refl in cc (before, precedes_irreflexive n)
decided_by_names false n m p q is before = before

-- paths that begin with other names are as those
other_first : (n m : Name) (p q : Path) → precedes n m ≡ true → path_precedes (n ∷ p) (m ∷ q) ≡ true
other_first n m p q before = decided_by_names (bytes_eq n m) n m p q (bytes_eq-Decides n m).0 before

cases_by : (same : Bool) (n m : Name) (p q : Path) → (same ≡ true → n ≡ m) → (if same then path_precedes p q else precedes n m) ≡ true
    → ((n ≡ m) × (path_precedes p q ≡ true)) ⊎ (precedes n m ≡ true)
cases_by true n m p q is before = inl (is refl, before)
cases_by false n m p q is before = inr before

-- by the first names, or by the rest
cases_of : (n m : Name) (p q : Path) → path_precedes (n ∷ p) (m ∷ q) ≡ true → ((n ≡ m) × (path_precedes p q ≡ true)) ⊎ (precedes n m ≡ true)
cases_of n m p q before = cases_by (bytes_eq n m) n m p q (bytes_eq-Decides n m).0 before

pub path_irreflexive : (p : Path) → path_precedes p p ≡ false
path_irreflexive [] = refl
path_irreflexive (n ∷ p) = same_first n n p p refl ∙ path_irreflexive p

transitive_by : (n m l : Name) (p q r : Path) → ((n ≡ m) × (path_precedes p q ≡ true)) ⊎ (precedes n m ≡ true)
    → ((m ≡ l) × (path_precedes q r ≡ true)) ⊎ (precedes m l ≡ true)
    → (path_precedes p q ≡ true → path_precedes q r ≡ true → path_precedes p r ≡ true) → path_precedes (n ∷ p) (l ∷ r) ≡ true
transitive_by n m l p q r (inl h) (inl k) rest = same_first n l p r (h.0 ∙ k.0) ∙ rest h.1 k.1
transitive_by n m l p q r (inl h) (inr k) rest = other_first n l p r (ap (λ (x : Name). precedes x l) h.0 ∙ k)
transitive_by n m l p q r (inr h) (inl k) rest = let same : m ≡ l = k.0 in other_first n l p r (rw (← same) h)
transitive_by n m l p q r (inr h) (inr k) rest = other_first n l p r (precedes_transitive n m l h k)

pub path_transitive : (p q r : Path) → path_precedes p q ≡ true → path_precedes q r ≡ true → path_precedes p r ≡ true
path_transitive [] [] r h k = cc
path_transitive [] (m ∷ q) [] h k = cc
path_transitive [] (m ∷ q) (l ∷ r) h k = refl
path_transitive (n ∷ p) [] r h k = cc
path_transitive (n ∷ p) (m ∷ q) [] h k = cc
path_transitive (n ∷ p) (m ∷ q) (l ∷ r) h k = transitive_by n m l p q r (cases_of n m p q h) (cases_of m l q r k) (path_transitive p q r)

-- one comes first, or they are equal
compares_by : (n m : Name) (p q : Path) → (precedes n m ≡ true) ⊎ (precedes m n ≡ true) ⊎ (n ≡ m)
    → (path_precedes p q ≡ true) ⊎ (path_precedes q p ≡ true) ⊎ (p ≡ q)
    → (path_precedes (n ∷ p) (m ∷ q) ≡ true) ⊎ (path_precedes (m ∷ q) (n ∷ p) ≡ true) ⊎ (n ∷ p ≡ m ∷ q)
compares_by n m p q (inl h) rest = inl (other_first n m p q h)
compares_by n m p q (inr (inl h)) rest = inr (inl (other_first m n q p h))
compares_by n m p q (inr (inr h)) (inl k) = inl (same_first n m p q h ∙ k)
compares_by n m p q (inr (inr h)) (inr (inl k)) = let back : m ≡ n = cc in inr (inl (same_first m n q p back ∙ k))
compares_by n m p q (inr (inr h)) (inr (inr k)) = inr (inr cc)

compares : (p q : Path) → (path_precedes p q ≡ true) ⊎ (path_precedes q p ≡ true) ⊎ (p ≡ q)
compares [] [] = inr (inr refl)
compares [] (m ∷ q) = inl refl
compares (n ∷ p) [] = inr (inl refl)
compares (n ∷ p) (m ∷ q) = compares_by n m p q (precedes_compares n m) (compares p q)

total_by : (p q : Path) → p ≢ q → (path_precedes p q ≡ true) ⊎ (path_precedes q p ≡ true) ⊎ (p ≡ q)
    → (path_precedes p q ≡ true) ⊎ (path_precedes q p ≡ true)
total_by p q different (inl h) = inl h
total_by p q different (inr (inl h)) = inr h
total_by p q different (inr (inr same)) = absurd (different same)

pub paths_are_ordered : PathsAreOrdered
paths_are_ordered = record {
  irreflexive = path_irreflexive;
  transitive = path_transitive;
  total = λ p q different. total_by p q different (compares p q);
}
