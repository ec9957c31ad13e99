-- A map from paths has one list of rows.
use Rattle.std.proofs.Common.{◌≡◌, ◌⊎◌, true, List, [], ◌∷◌, refl, sym, subst, get_or}
use Rattle.std.specs.Prelude.{Option}
use Rattle.std.specs.List.{All, Contains}
use Rattle.std.proofs.lemmas.List.Elements.{All-contains, All-tail, All-head}
use mathlib.Core.Logic.{inl, inr}
use Rattle.lfs_fs.specs.Path.{Path}
use Rattle.lfs_fs.specs.Entry.{Entry}
use Rattle.lfs_fs.specs.Row.{path_precedes, Row, RowsRise, AreRows, RowsAreUnique}
use Rattle.lfs_fs.proofs.PathOrderLemmas.{path_irreflexive, path_transitive}
use Rattle.lfs_fs.proofs.ContainsLemmas.{contains_none, contains_cases}

-- two paths don't precede each other
paths_not_both : (p q : Path) → path_precedes p q ≡ true → path_precedes q p ≡ true → ⊥
paths_not_both p q h k = cc (path_transitive p q p h k, path_irreflexive p)

-- what is in a list is its first row, or comes after it
after_first : (r : Row) (rows : List Row) (x : Row) → RowsRise (r ∷ rows) → Contains (r ∷ rows) x
    → (x ≡ r) ⊎ (path_precedes r.path x.path ≡ true)
after_first r rows x h there = elim (contains_cases r rows x there) [
  | inl same ↦ inl same
  | inr later ↦ inr
      (All-contains (λ (y : Row). path_precedes r.path y.path ≡ true) rows x h.0 later)
]

-- two lists with the same rows begin with the same one
first_same : (r s : Row) → (s ≡ r) ⊎ (path_precedes r.path s.path ≡ true) → (r ≡ s) ⊎ (path_precedes s.path r.path ≡ true) → r ≡ s
first_same r s (inl same) more = sym same
first_same r s (inr before) (inl same) = same
first_same r s (inr before) (inr after) = absurd (paths_not_both r.path s.path before after)

-- all but the first rows are among all but the first
others_contained : (r : Row) (rows others : List Row) → RowsRise (r ∷ rows) → All (Contains (r ∷ others)) (r ∷ rows)
    → All (Contains others) rows
others_contained r rows others h there k d within =
    let x = get_or rows k d in
    let later : path_precedes r.path x.path ≡ true = h.0 k d within in
    elim (contains_cases r others x (All-tail (Contains (r ∷ others)) r rows there k d within)) [
      | inl same ↦ absurd (paths_not_both r.path x.path later (subst (λ (y : Row). path_precedes y.path r.path ≡ true) (sym same)
          (subst (λ (y : Row). path_precedes r.path y.path ≡ true) same later)))
      | inr there' ↦ there'
    ]

-- two rising lists with the same rows are the same
rows_same : (rows others : List Row) → RowsRise rows → RowsRise others → All (Contains others) rows → All (Contains rows) others
    → rows ≡ others
rows_same [] [] h k there back = refl
rows_same [] (s ∷ others) h k there back = absurd (contains_none s (All-head (Contains []) s others back))
rows_same (r ∷ rows) [] h k there back = absurd (contains_none r (All-head (Contains []) r rows there))
rows_same (r ∷ rows) (s ∷ others) h k there back =
    let same : r ≡ s = first_same r s (after_first r rows s h (All-head (Contains (r ∷ rows)) s others back))
    (after_first s others r k (All-head (Contains (s ∷ others)) r rows there)) in
    let k' : RowsRise (r ∷ others) = subst (λ (x : Row). RowsRise (x ∷ others)) (sym same) k in
    let there' : All (Contains (r ∷ others)) (r ∷ rows) = subst (λ (x : Row). All (Contains (x ∷ others)) (r ∷ rows)) (sym same) there in
    let back' : All (Contains (r ∷ rows)) (r ∷ others) = subst (λ (x : Row). All (Contains (r ∷ rows)) (x ∷ others)) (sym same) back in
    let tails : rows ≡ others = rows_same rows others h.1 k'.1 (others_contained r rows others h there')
    (others_contained r others rows k' back') in
    cc

-- each row of one list is a row of the other
rows_contained : (at : Path → Option Entry) (rows others : List Row) → AreRows at rows → AreRows at others → All (Contains others) rows
rows_contained at rows others h k i d within = k.complete (get_or rows i d).path (get_or rows i d).entry (h.right i d within)

pub rows_are_unique : RowsAreUnique
rows_are_unique at rows others h k = rows_same rows others h.rise k.rise (rows_contained at rows others h k)
    (rows_contained at others rows k h)
