-- Edits of a list of entries: what is found, sums, order.
use Rattle.std.proofs.Common.{◌≡◌, ℕ, ◌+◌, Bool, true, false, List, [], ◌∷◌, ◌++◌, refl, sym, ◌∙◌, subst, arith, Some, None}
use Rattle.std.specs.Prelude.{not, if◌then◌else◌, sum_by, count_by, find}
use Rattle.std.specs.List.{All, list_any}
use Rattle.std.proofs.lemmas.List.Sums.{sum_by-cons}
use Rattle.std.proofs.lemmas.List.Elements.{All-nil, All-cons, All-head, All-tail, All-filter, All-weaker}
use Rattle.std.proofs.lemmas.Slice.Eq.{bytes_eq-Decides}
use mathlib.Core.Logic.{inl, inr}
use Rattle.lfs_meta.specs.Name.{Name}
use Rattle.lfs_fs.specs.NameOrder.{precedes, NamesAreOrdered}
use Rattle.lfs_fs.specs.Entry.{Entry, is_named}
use Rattle.lfs_fs.specs.Sound.{Rise}
use Rattle.lfs_fs.proofs.OrderedEndLemmas.{none_counted}
use Rattle.lfs_command.specs.EntryEdit.{place, without, changed}
use Rattle.lfs_law.proofs.OneElement.{All-where}

-- ---- names

pub has_its_name : (e : Entry) → is_named e.name e ≡ true
has_its_name e = (bytes_eq-Decides e.name e.name).1 refl

pub name_is : (n : Name) (e : Entry) → is_named n e ≡ true → n ≡ e.name
name_is n e is = (bytes_eq-Decides n e.name).0 is

pub named_so : (n : Name) (e : Entry) → n ≡ e.name → is_named n e ≡ true
named_so n e is = (bytes_eq-Decides n e.name).1 is

pub has_other_name : (m n : Name) → (m ≡ n → ⊥) → (e : Entry) → is_named n e ≡ true → is_named m e ≡ false
has_other_name m n differ e is = go (is_named m e) refl
  where
    go : (b : Bool) → is_named m e ≡ b → b ≡ false
    go true same = absurd (differ (name_is m e same ∙ sym (name_is n e is)))
    go false same = refl

-- ---- an entry put into a list

-- before a greater name of the first list
pub place_early : (e : Entry) (xs ys : List Entry) → list_any (λ f. precedes e.name f.name) xs ≡ true
    → place e (xs ++ ys) ≡ place e xs ++ ys
unfolding place
place_early e [] ys some = cc
place_early e (f ∷ xs) ys some = grind (arith, place_early e xs ys)

-- behind all names of the first list
pub place_late : (e : Entry) (xs ys : List Entry) → list_any (λ f. precedes e.name f.name) xs ≡ false
    → place e (xs ++ ys) ≡ xs ++ place e ys
unfolding place
place_late e [] ys no_one = refl
place_late e (f ∷ xs) ys no_one = grind (arith, place_late e xs ys)

pub sum_place : (g : Entry → ℕ) (e : Entry) (xs : List Entry) → sum_by g (place e xs) ≡ g e + sum_by g xs
unfolding place
sum_place g e [] = sum_by-cons g e []
sum_place g e (f ∷ xs) = grind (arith, sum_place g e xs, sum_by-cons g e (f ∷ xs), sum_by-cons g f xs, sum_by-cons g f (place e xs))

pub find_place : (t : Entry → Bool) (e : Entry) (xs : List Entry) → t e ≡ true → find t xs ≡ None → find t (place e xs) ≡ Some e
unfolding place
find_place t e [] is fresh = grind arith
find_place t e (f ∷ xs) is fresh = grind (arith, find_place t e xs)

pub find_place_other : (t : Entry → Bool) (e : Entry) (xs : List Entry) → t e ≡ false → find t (place e xs) ≡ find t xs
unfolding place
find_place_other t e [] is = grind arith
find_place_other t e (f ∷ xs) is = grind (arith, find_place_other t e xs)

pub All-place : (P : Entry → Type 0) (e : Entry) (xs : List Entry) → P e → All P xs → All P (place e xs)
unfolding place
All-place P e [] new all = All-cons P e [] new all
All-place P e (f ∷ xs) new all = go (precedes e.name f.name) (All-place P e xs new (All-tail P f xs all))
  where
    go : (b : Bool) → All P (place e xs) → All P (if b then e ∷ f ∷ xs else f ∷ place e xs)
    go true later = All-cons P e (f ∷ xs) new all
    go false later = All-cons P f (place e xs) (All-head P f xs all) later

-- a name that doesn't come before another one, and isn't the same, comes behind it
comes_before : (n m : Name) → NamesAreOrdered → (n ≡ m → ⊥) → precedes n m ≡ false → precedes m n ≡ true
comes_before n m ordered differ not_before = elim (ordered.total n m differ) [ inl before ↦ cc | inr after ↦ after ]

pub Rise-place : (e : Entry) (xs : List Entry) → NamesAreOrdered → find (is_named e.name) xs ≡ None → Rise xs → Rise (place e xs)
unfolding place
Rise-place e [] ordered fresh rise = (All-nil (λ (g : Entry). precedes e.name g.name ≡ true), tt)
Rise-place e (f ∷ xs) ordered fresh rise = go (precedes e.name f.name) refl (Rise-place e xs ordered (grind arith) rise.1)
  where
    go : (b : Bool) → precedes e.name f.name ≡ b → Rise (place e xs) → Rise (if b then e ∷ f ∷ xs else f ∷ place e xs)
    go true before later_rise =
        let later : All (λ g. precedes e.name g.name ≡ true) xs = All-weaker (λ (g : Entry). precedes f.name g.name ≡ true)
        (λ g. precedes e.name g.name ≡ true)
        (λ g h. ordered.transitive e.name f.name g.name before h) xs rise.0 in
        (All-cons (λ (g : Entry). precedes e.name g.name ≡ true) f xs before later, rise)
    go false not_before later_rise =
        let other : is_named e.name f ≡ false = grind arith in
        let differ : e.name ≡ f.name → ⊥ = λ same. grind (arith, named_so e.name f same) in (
          All-place (λ (g : Entry). precedes f.name g.name ≡ true) e xs (comes_before e.name f.name ordered differ not_before) rise.0,
          later_rise,
        )

-- ---- where names rise

-- what comes later has another name
none_later : (n : Name) (e : Entry) (es : List Entry) → NamesAreOrdered → is_named n e ≡ true → All (λ f. precedes e.name f.name ≡ true) es
    → find (is_named n) es ≡ None
none_later n e [] ordered is all = refl
none_later n e (f ∷ es) ordered is all =
    let before : precedes e.name f.name ≡ true = All-head (λ (f : Entry). precedes e.name f.name ≡ true) f es all in
    let later : find (is_named n) es ≡ None = none_later n e es ordered is
    (All-tail (λ (f : Entry). precedes e.name f.name ≡ true) f es all) in
    let differ : n ≡ f.name → ⊥ = λ same. grind (arith, ordered.irreflexive n, name_is n e is) in
    let other : is_named n f ≡ false = go (is_named n f) refl differ in
    grind arith
  where
    go : (b : Bool) → is_named n f ≡ b → (n ≡ f.name → ⊥) → b ≡ false
    go true same differ = absurd (differ (name_is n f same))
    go false same differ = refl

-- one entry has a name
pub once_named : (n : Name) (es : List Entry) (e : Entry) → NamesAreOrdered → Rise es → find (is_named n) es ≡ Some e
    → count_by (is_named n) es ≡ 1
once_named n [] e ordered rise found = cc
once_named n (f ∷ es) e ordered rise found =
    grind (
      arith,
      sum_by-cons (λ (x : Entry). if is_named n x then 1 else 0) f es,
      none_later n f es ordered,
      none_counted (is_named n) es,
      once_named n es e ordered rise.1,
      rise.0,
    )

pub Rise-without : (n : Name) (es : List Entry) → Rise es → Rise (without n es)
Rise-without n [] rise = tt
Rise-without n (e ∷ es) rise = go (is_named n e) (Rise-without n es rise.1)
  where
    go : (b : Bool) → Rise (without n es) → Rise (if not b then e ∷ without n es else without n es)
    go true later = later
    go false later = (All-filter (λ f. not (is_named n f)) (λ f. precedes e.name f.name ≡ true) es rise.0, later)

-- f leaves the name
abbrev pub KeepsName : (Entry → Entry) → Type 0
KeepsName f = (e : Entry) → (f e).name ≡ e.name

precede_changed : (m n : Name) (f : Entry → Entry) (es : List Entry) → KeepsName f → All (λ g. precedes m g.name ≡ true) es
    → All (λ g. precedes m g.name ≡ true) (changed n f es)
precede_changed m n f es keeps all =
    All-where (λ (g : Entry). precedes m g.name ≡ true) (is_named n) f es
    (λ x is before. subst (λ k. precedes m k ≡ true) (sym (keeps x)) before) all

pub Rise-changed : (n : Name) (f : Entry → Entry) (es : List Entry) → KeepsName f → Rise es → Rise (changed n f es)
Rise-changed n f [] keeps rise = tt
Rise-changed n f (e ∷ es) keeps rise = go (is_named n e) (Rise-changed n f es keeps rise.1)
  where
    go : (b : Bool) → Rise (changed n f es) → Rise ((if b then f e else e) ∷ changed n f es)
    go true later = (
      subst (λ m. All (λ (g : Entry). precedes m g.name ≡ true) (changed n f es)) (sym (keeps e))
          (precede_changed e.name n f es keeps rise.0),
      later,
    )
    go false later = (precede_changed e.name n f es keeps rise.0, later)
