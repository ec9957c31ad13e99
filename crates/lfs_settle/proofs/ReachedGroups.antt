-- The directories that a path leads to: a path of any length leads to no other ones, and they are the least closed ones.
use Rattle.std.proofs.Common.{◌≡◌, ◌⊎◌, inl, inr, ℕ, zero, suc, ◌<◌, ◌≤◌, Bool, true, false, List, [], ◌∷◌, length, refl, ap, sym, ◌∙◌, subst, arith}
use Rattle.std.specs.Prelude.{Contains, ◌||◌, cond}
use Rattle.std.specs.List.{filter, list_any}
use Rattle.std.proofs.lemmas.Bool.{both_ways, or_cases}
use Rattle.std.proofs.lemmas.Grind.{flat_map-append}
use Rattle.std.proofs.lemmas.List.Folds.{list_any-append}
use Rattle.lfs_meta.specs.Body.{Pair}
use Rattle.lfs_fs.specs.Pair.{root}
use Rattle.lfs_fs.specs.Gathering.{PairPart}
use Rattle.lfs_fs.proofs.ContainsLemmas.{contains_cases, contains_first, contains_later, contains_none}
use Rattle.lfs_settle.specs.InStep.{pairs_named, same_blocks}
use Rattle.lfs_settle.specs.Laws.{AreAllReached, ClosedAreReached, NamedAreReached}
use Rattle.lfs_settle.specs.Reached.{begins_in, named_by, named_within, parts_of}

-- a directory
abbrev Group : Type 0
Group = List PairPart

-- ---- filters

pub either_true : (x y : Bool) → (x ≡ true) ⊎ (y ≡ true) → (x || y) ≡ true
either_true true y h = refl
either_true false y (inl h) = cc
either_true false y (inr h) = h

cases_of : (b : Bool) → (b ≡ true) ⊎ (b ≡ false)
cases_of true = inl refl
cases_of false = inr refl

-- what passes one test passes the other
abbrev pub Implies : {X : Type 0} → (X → Bool) → (X → Bool) → List X → Type 0
Implies f h xs = (x : _) → Contains xs x → f x ≡ true → h x ≡ true

later_implies : {X : Type 0} (f h : X → Bool) (x : X) (xs : List X) → Implies f h (x ∷ xs) → Implies f h xs
later_implies f h x xs all y there = all y (contains_later x xs y there)

-- a filter keeps what passes
kept_by : {X : Type 0} (t : Bool) (y : X) (ys : List X) (x : X) → (x ≡ y) ⊎ Contains ys x → (x ≡ y → t ≡ true) → Contains (cond t (y ∷ ys) ys) x
kept_by true y ys x (inl is) pass = subst (λ (z : _). Contains (y ∷ ys) z) (sym is) (contains_first y ys)
kept_by true y ys x (inr later) pass = contains_later y ys x later
kept_by false y ys x (inl is) pass = absurd (both_ways false refl (pass is))
kept_by false y ys x (inr later) pass = later

pub contains_filtered : {X : Type 0} (test : X → Bool) (xs : List X) (x : X) → Contains xs x → test x ≡ true → Contains (filter test xs) x
contains_filtered test [] x there pass = absurd (contains_none x there)
contains_filtered test (y ∷ xs) x there pass =
    kept_by (test y) y (filter test xs) x
    (elim (contains_cases y xs x there) [ inl is ↦ inl is | inr later ↦ inr (contains_filtered test xs x later pass) ])
    (λ is. sym (ap test is) ∙ pass)

-- what a filter keeps passes
passed_by : {X : Type 0} (test : X → Bool) (t : Bool) (y : X) (ys : List X) (x : X) → test y ≡ t → (Contains ys x → test x ≡ true)
    → Contains (cond t (y ∷ ys) ys) x → test x ≡ true
passed_by test true y ys x is rest there =
    elim (contains_cases y ys x there) [ inl same ↦ ap test same ∙ is | inr later ↦ rest later ]
passed_by test false y ys x is rest there = rest there

pub passed : {X : Type 0} (test : X → Bool) (xs : List X) (x : X) → Contains (filter test xs) x → test x ≡ true
passed test [] x there = absurd (contains_none x there)
passed test (y ∷ xs) x there = passed_by test (test y) y (filter test xs) x refl (passed test xs x) there

same_by : {X : Type 0} (s t : Bool) (x : X) (xs ys : List X) → s ≡ t → xs ≡ ys → cond s (x ∷ xs) xs ≡ cond t (x ∷ ys) ys
same_by s t x xs ys same rest = ap (λ (b : Bool). cond b (x ∷ xs) xs) same ∙ ap (λ (zs : List _). cond t (x ∷ zs) zs) rest

pub both_true : (s t : Bool) → (s ≡ true → t ≡ true) → (t ≡ true → s ≡ true) → s ≡ t
both_true true t there back = sym (there refl)
both_true false true there back = back refl
both_true false false there back = refl

-- tests that pass the same make the same
pub filter_alike : {X : Type 0} (f h : X → Bool) (xs : List X) → Implies f h xs → Implies h f xs → filter f xs ≡ filter h xs
filter_alike f h [] there back = refl
filter_alike f h (x ∷ xs) there back =
    same_by (f x) (h x) x (filter f xs) (filter h xs)
    (both_true (f x) (h x) (there x (contains_first x xs)) (back x (contains_first x xs)))
    (filter_alike f h xs (later_implies f h x xs there) (later_implies h f x xs back))

all_by : {X : Type 0} (t : Bool) (x : X) (ys xs : List X) → t ≡ true → ys ≡ xs → cond t (x ∷ ys) ys ≡ x ∷ xs
all_by true x ys xs pass rest = ap (λ (zs : List _). x ∷ zs) rest
all_by false x ys xs pass rest = absurd (both_ways false refl pass)

-- what all pass keeps all
pub filter_all : {X : Type 0} (test : X → Bool) (xs : List X) → ((x : X) → Contains xs x → test x ≡ true) → filter test xs ≡ xs
filter_all test [] pass = refl
filter_all test (x ∷ xs) pass =
    all_by (test x) x (filter test xs) xs (pass x (contains_first x xs)) (filter_all test xs (λ y there. pass y (contains_later x xs y there)))

-- ---- how much a filter keeps

-- two filters keep the same, or the second one more
abbrev SameOrMore : {X : Type 0} → List X → List X → Type 0
SameOrMore xs ys = (xs ≡ ys) ⊎ (length xs < length ys)

more_by : {X : Type 0} (s t : Bool) (x : X) (xs ys : List X) → (s ≡ true → t ≡ true) → SameOrMore xs ys
    → SameOrMore (cond s (x ∷ xs) xs) (cond t (x ∷ ys) ys)
more_by true true x xs ys there (inl same) = inl (ap (λ (zs : List _). x ∷ zs) same)
more_by true true x xs ys there (inr less) = inr (omega arith)
more_by true false x xs ys there h = absurd (both_ways false refl (there refl))
more_by false true x xs ys there (inl same) = inr (let len = ap length same in omega arith)
more_by false true x xs ys there (inr less) = inr (omega arith)
more_by false false x xs ys there h = h

filter_more : {X : Type 0} (f h : X → Bool) (xs : List X) → Implies f h xs → SameOrMore (filter f xs) (filter h xs)
filter_more f h [] there = inl refl
filter_more f h (x ∷ xs) there =
    more_by (f x) (h x) x (filter f xs) (filter h xs) (there x (contains_first x xs)) (filter_more f h xs (later_implies f h x xs there))

most_by : {X : Type 0} (t : Bool) (x : X) (ys xs : List X) → length ys ≤ length xs → length (cond t (x ∷ ys) ys) ≤ length (x ∷ xs)
most_by true x ys xs less = omega arith
most_by false x ys xs less = omega arith

filter_most : {X : Type 0} (f : X → Bool) (xs : List X) → length (filter f xs) ≤ length xs
filter_most f [] = omega arith
filter_most f (x ∷ xs) = most_by (f x) x (filter f xs) xs (filter_most f xs)

full_by : {X : Type 0} (t : Bool) (x : X) (ys xs : List X) → length (x ∷ xs) ≤ length (cond t (x ∷ ys) ys) → length ys ≤ length xs
    → (t ≡ true) × (length xs ≤ length ys)
full_by true x ys xs full most = (refl, omega arith)
full_by false x ys xs full most = absurd (omega arith)

-- where a filter keeps as many as there are, all pass
filter_full : {X : Type 0} (f : X → Bool) (xs : List X) → length xs ≤ length (filter f xs) → (x : X) → Contains xs x → f x ≡ true
filter_full f [] full x there = absurd (contains_none x there)
filter_full f (y ∷ xs) full x there =
    let both = full_by (f y) y (filter f xs) xs full (filter_most f xs) in
    elim (contains_cases y xs x there) [ inl is ↦ ap f is ∙ both.0 | inr later ↦ filter_full f xs both.1 x later ]

-- ---- what more directories name

-- a pair is named
abbrev pub IsNamed : Pair → List Pair → Type 0
IsNamed k named = list_any (same_blocks k) named ≡ true

named_first : (k : Pair) (g : Group) (gs : List Group)
    → list_any (same_blocks k) (pairs_named (parts_of (g ∷ gs)))
    ≡ (list_any (same_blocks k) (pairs_named g) || list_any (same_blocks k) (pairs_named (parts_of gs)))
named_first k g gs =
    ap (list_any (same_blocks k)) (flat_map-append _ g (parts_of gs))
    ∙ list_any-append (same_blocks k) (pairs_named g) (pairs_named (parts_of gs))

more_named : (k : Pair) (s t : Bool) (g : Group) (gs hs : List Group) → (s ≡ true → t ≡ true)
    → (IsNamed k (pairs_named (parts_of gs)) → IsNamed k (pairs_named (parts_of hs)))
    → IsNamed k (pairs_named (parts_of (cond s (g ∷ gs) gs))) → IsNamed k (pairs_named (parts_of (cond t (g ∷ hs) hs)))
more_named k true true g gs hs there rest is =
    named_first k g hs
    ∙ either_true (list_any (same_blocks k) (pairs_named g)) (list_any (same_blocks k) (pairs_named (parts_of hs)))
    (elim (or_cases (list_any (same_blocks k) (pairs_named g)) (list_any (same_blocks k) (pairs_named (parts_of gs)))
    (sym (named_first k g gs) ∙ is)) [ inl here ↦ inl here | inr later ↦ inr (rest later) ])
more_named k true false g gs hs there rest is = absurd (both_ways false refl (there refl))
more_named k false true g gs hs there rest is =
    named_first k g hs
    ∙ either_true (list_any (same_blocks k) (pairs_named g)) (list_any (same_blocks k) (pairs_named (parts_of hs))) (inr (rest is))
more_named k false false g gs hs there rest is = rest is

filtered_named : (k : Pair) (f h : Group → Bool) (gs : List Group) → Implies f h gs
    → IsNamed k (pairs_named (parts_of (filter f gs))) → IsNamed k (pairs_named (parts_of (filter h gs)))
filtered_named k f h [] there is = is
filtered_named k f h (g ∷ gs) there is =
    more_named k (f g) (h g) g (filter f gs) (filter h gs) (there g (contains_first g gs))
    (filtered_named k f h gs (later_implies f h g gs there)) is

with_root : (k : Pair) (xs ys : List Pair) → (IsNamed k xs → IsNamed k ys) → IsNamed k (root ∷ xs) → IsNamed k (root ∷ ys)
with_root k xs ys more is =
    either_true (same_blocks k root) (list_any (same_blocks k) ys)
    (elim (or_cases (same_blocks k root) (list_any (same_blocks k) xs) is) [ inl here ↦ inl here | inr later ↦ inr (more later) ])

pub begins_more : (named more : List Pair) → ((k : Pair) → IsNamed k named → IsNamed k more) → (g : Group) → begins_in named g ≡ true
    → begins_in more g ≡ true
begins_more named more all [] is = is
begins_more named more all (p ∷ ps) is = all p.0 is

-- directories among others name no more
begins_filtered : (f h : Group → Bool) (gs : List Group) → Implies f h gs → (g : Group) → begins_in (named_by (filter f gs)) g ≡ true
    → begins_in (named_by (filter h gs)) g ≡ true
begins_filtered f h gs there = begins_more (named_by (filter f gs)) (named_by (filter h gs))
    (λ k. with_root k (pairs_named (parts_of (filter f gs))) (pairs_named (parts_of (filter h gs))) (filtered_named k f h gs there))

begins_any : (hs : List Group) (g : Group) → begins_in (named_by []) g ≡ true → begins_in (named_by hs) g ≡ true
begins_any hs = begins_more (named_by []) (named_by hs)
    (λ k. with_root k [] (pairs_named (parts_of hs)) (λ (none : false ≡ true). absurd (both_ways false refl none)))

-- ---- paths one name longer

module _ (gs : List Group) where
  -- the directories at the ends of paths of at most so many names
  abbrev within : ℕ → Group → Bool
  within n = begins_in (named_within gs n)

  begins_by_none : (n : ℕ) (g : Group) → within 0 g ≡ true → within n g ≡ true
  begins_by_none zero g is = is
  begins_by_none (suc n) g is = begins_any (filter (within n) gs) g is

  longer : (n : ℕ) (g : Group) → within n g ≡ true → within (suc n) g ≡ true
  longer zero g is = begins_by_none 1 g is
  longer (suc n) g is = begins_filtered (within n) (within (suc n)) gs (λ x there. longer n x) g is

  -- one name more leads to no other directory
  abbrev IsEnough : ℕ → Type 0
  IsEnough n = filter (within n) gs ≡ filter (within (suc n)) gs

  still_enough : (n : ℕ) → IsEnough n → IsEnough (suc n)
  still_enough n enough = ap (λ (hs : List Group). filter (begins_in (named_by hs)) gs) enough

  -- so many names are enough, or lead to as many directories
  enough_or_many : (n : ℕ) → IsEnough n ⊎ (n ≤ length (filter (within n) gs))
  enough_or_many zero = inr (omega arith)
  enough_or_many (suc n) = elim (enough_or_many n) [
    | inl enough ↦ inl (still_enough n enough)
    | inr many ↦ elim (filter_more (within n) (within (suc n)) gs (λ x there. longer n x)) [
      | inl same ↦ inl (still_enough n same)
      | inr more ↦ inr (omega arith)
    ]
  ]

  passes_kept : (f h : Group → Bool) → filter f gs ≡ filter h gs → Implies f h gs
  passes_kept f h same g there pass = passed h gs g (subst (λ (hs : List Group). Contains hs g) same (contains_filtered f gs g there pass))

  module _ (last : ℕ) (enough : IsEnough last) where
    none_longer : (n : ℕ) → Implies (within n) (within last) gs
    none_longer zero g there is = begins_by_none last g is
    none_longer (suc n) g there is =
        passes_kept (within (suc last)) (within last) (sym enough) g there
        (begins_filtered (within n) (within last) gs (none_longer n) g is)

  -- no path leads elsewhere than one of at most as many names as there are directories
  pub path_within : (n : ℕ) → Implies (within n) (within (length gs)) gs
  path_within n = elim (enough_or_many (length gs)) [
    | inl enough ↦ none_longer (length gs) enough n
    | inr many ↦ (λ g there is. filter_full (within (length gs)) gs many g there)
  ]

-- ---- the laws

pub named_are_reached : NamedAreReached
named_are_reached gs n g there is =
    contains_filtered (begins_in (named_within gs (length gs))) gs g there (path_within gs n g there is)

module _ (gs : List Group) (test : Group → Bool) (all : AreAllReached gs test) where
  passes_within : (n : ℕ) → Implies (begins_in (named_within gs n)) test gs
  passes_within zero g there is = all.closed g there (begins_any (filter test gs) g is)
  passes_within (suc n) g there is =
      all.closed g there (begins_filtered (begins_in (named_within gs n)) test gs (passes_within n) g is)

  reached_pass : Implies test (begins_in (named_within gs (length gs))) gs
  reached_pass g there pass = let path = all.reached g there pass in path_within gs path.0 g there path.1

pub closed_are_reached : ClosedAreReached
closed_are_reached gs test all =
    filter_alike test (begins_in (named_within gs (length gs))) gs (reached_pass gs test all) (passes_within gs test all (length gs))
