-- Edits of the one element of a list that passes a test.
use Rattle.std.proofs.Common.{◌≡◌, ℕ, ◌+◌, Bool, true, false, List, [], ◌∷◌, refl, sym, subst, arith, map, Some, None}
use Rattle.std.specs.Prelude.{not, if◌then◌else◌, sum_by, count_by, find}
use Rattle.std.specs.List.{filter, All}
use Rattle.std.specs.Option.{option_map}
use Rattle.std.proofs.lemmas.List.Sums.{sum_by-cons}
use Rattle.std.proofs.lemmas.List.Elements.{All-nil, All-cons, All-head, All-tail}

-- the elements that pass changed
abbrev pub where_passes : {X : Type 0} → (X → Bool) → (X → X) → List X → List X
where_passes t f = map (λ y. if t y then f y else y)

-- the elements that pass taken out
abbrev pub others : {X : Type 0} → (X → Bool) → List X → List X
others t = filter (λ y. not (t y))

pub none_counted : {X : Type 0} (t : X → Bool) (xs : List X) → count_by t xs ≡ 0 → find t xs ≡ None
none_counted t [] h = refl
none_counted t (y ∷ ys) h = grind (arith, sum_by-cons (λ x. if t x then 1 else 0) y ys, none_counted t ys)

pub none_later : {X : Type 0} (t : X → Bool) (y : X) (ys : List X) → find t (y ∷ ys) ≡ None → find t ys ≡ None
none_later t y ys h = grind arith

pub where_none : {X : Type 0} (t : X → Bool) (f : X → X) (xs : List X) → find t xs ≡ None → where_passes t f xs ≡ xs
where_none t f [] h = refl
where_none t f (y ∷ ys) h = grind (arith, where_none t f ys)

pub others_none : {X : Type 0} (t : X → Bool) (xs : List X) → find t xs ≡ None → others t xs ≡ xs
others_none t [] h = refl
others_none t (y ∷ ys) h = grind (arith, others_none t ys)

-- ---- sums

-- where one passes, the first one is it or is among the others
pub count_cases : {X : Type 0} (t : X → Bool) (y : X) (ys : List X) → count_by t (y ∷ ys) ≡ (if t y then 1 else 0) + count_by t ys
count_cases t y ys = sum_by-cons (λ x. if t x then 1 else 0) y ys

pub sum_where : {X : Type 0} (g : X → ℕ) (t : X → Bool) (f : X → X) (xs : List X) (x : X) → find t xs ≡ Some x → count_by t xs ≡ 1
    → sum_by g (where_passes t f xs) + g x ≡ sum_by g xs + g (f x)
sum_where g t f [] x found once = cc
sum_where g t f (y ∷ ys) x found once =
    grind (
      arith,
      count_cases t y ys,
      none_counted t ys,
      where_none t f ys,
      sum_where g t f ys x,
      sum_by-cons g y ys,
      sum_by-cons g (f y) (where_passes t f ys),
      sum_by-cons g y (where_passes t f ys),
    )

pub sum_others : {X : Type 0} (g : X → ℕ) (t : X → Bool) (xs : List X) (x : X) → find t xs ≡ Some x → count_by t xs ≡ 1
    → sum_by g (others t xs) + g x ≡ sum_by g xs
sum_others g t [] x found once = cc
sum_others g t (y ∷ ys) x found once =
    grind (
      arith,
      count_cases t y ys,
      none_counted t ys,
      others_none t ys,
      sum_others g t ys x,
      sum_by-cons g y ys,
      sum_by-cons g y (others t ys),
    )

-- ---- what is found

pub found_one : {X : Type 0} (t : X → Bool) (xs : List X) → count_by t xs ≡ 1 → (x : X) × (find t xs ≡ Some x)
found_one t [] once = absurd (omega arith)
found_one {X = X} t (y ∷ ys) once = go (t y) refl (found_one t ys)
  where
    go : (b : Bool) → t y ≡ b → (count_by t ys ≡ 1 → (x : X) × (find t ys ≡ Some x)) → (x : X) × (find t (y ∷ ys) ≡ Some x)
    go true is later = (y, grind arith)
    go false is later =
        let found = later (grind (arith, count_cases t y ys)) in
        (found.0, grind (arith, found.1))

pub find_where : {X : Type 0} (t : X → Bool) (f : X → X) (xs : List X) → ((x : X) → t x ≡ true → t (f x) ≡ true)
    → find t (where_passes t f xs) ≡ option_map f (find t xs)
find_where t f [] keeps = refl
find_where t f (y ∷ ys) keeps = grind (arith, keeps y, find_where t f ys keeps)

pub find_where_other : {X : Type 0} (t u : X → Bool) (f : X → X) (xs : List X) → ((x : X) → t x ≡ true → u (f x) ≡ u x)
    → ((x : X) → t x ≡ true → u x ≡ false)
    → find u (where_passes t f xs) ≡ find u xs
find_where_other t u f [] keeps differ = refl
find_where_other t u f (y ∷ ys) keeps differ = grind (arith, keeps y, differ y, find_where_other t u f ys keeps differ)

pub find_others : {X : Type 0} (t : X → Bool) (xs : List X) → find t (others t xs) ≡ None
find_others t [] = refl
find_others t (y ∷ ys) = grind (arith, find_others t ys)

pub find_others_other : {X : Type 0} (t u : X → Bool) (xs : List X) → ((x : X) → t x ≡ true → u x ≡ false)
    → find u (others t xs) ≡ find u xs
find_others_other t u [] differ = refl
find_others_other t u (y ∷ ys) differ = grind (arith, differ y, find_others_other t u ys differ)

-- ---- what each element has

pub All-where : {X : Type 0} (P : X → Type 0) (t : X → Bool) (f : X → X) (xs : List X) → ((x : X) → t x ≡ true → P x → P (f x)) → All P xs
    → All P (where_passes t f xs)
All-where P t f [] keeps all = All-nil P
All-where P t f (y ∷ ys) keeps all =
    let first : P (if t y then f y else y) = changed_or_not (t y) refl in
    All-cons P (if t y then f y else y) (where_passes t f ys) first (All-where P t f ys keeps (All-tail P y ys all))
  where
    changed_or_not : (b : Bool) → t y ≡ b → P (if b then f y else y)
    changed_or_not true is = keeps y is (All-head P y ys all)
    changed_or_not false is = All-head P y ys all

pub All-where_one : {X : Type 0} (P : X → Type 0) (t : X → Bool) (f : X → X) (xs : List X) (x : X) → find t xs ≡ Some x → count_by t xs ≡ 1
    → (P x → P (f x)) → All P xs → All P (where_passes t f xs)
All-where_one P t f [] x found once keeps all = All-nil P
All-where_one P t f (y ∷ ys) x found once keeps all = first_or_later (t y) refl (All-where_one P t f ys x)
  where
    first_or_later : (b : Bool) → t y ≡ b → (find t ys ≡ Some x → count_by t ys ≡ 1 → (P x → P (f x)) → All P ys
        → All P (where_passes t f ys)) → All P ((if b then f y else y) ∷ where_passes t f ys)
    first_or_later true is later =
        let this : y ≡ x = grind arith in
        let none : find t ys ≡ None = none_counted t ys (grind (arith, count_cases t y ys)) in
        let new : P (f y) = subst (λ z. P z → P (f z)) (sym this) keeps (All-head P y ys all) in
        All-cons P (f y) (where_passes t f ys) new (subst (All P) (sym (where_none t f ys none)) (All-tail P y ys all))
    first_or_later false is later =
        All-cons P y (where_passes t f ys) (All-head P y ys all) (later (grind arith) (grind (arith, count_cases t y ys)) keeps
        (All-tail P y ys all))

pub found_has : {X : Type 0} (P : X → Type 0) (t : X → Bool) (xs : List X) (x : X) → find t xs ≡ Some x → All P xs → P x
found_has P t [] x found all = absurd (cc)
found_has {X = X} P t (y ∷ ys) x found all = go (t y) found (found_has P t ys x)
  where
    go : (b : Bool) → (if b then Some y else find t ys) ≡ Some x → (find t ys ≡ Some x → All P ys → P x) → P x
    go true is later = let this : y ≡ x = cc in subst P this (All-head P y ys all)
    go false is later = later is (All-tail P y ys all)
