-- Lists of parts of which some are left out.
use Rattle.std.proofs.Common.{◌≡◌, ◌⊎◌, inl, inr, ℕ, ◌+◌, ◌≤◌, Bool, true, false, List, [], ◌∷◌, ◌++◌, length, map, Some, None, refl, ap, sym, ◌∙◌, subst, arith, append_assoc, append-nil}
use Rattle.std.specs.Prelude.{All, Contains, ◌&&◌, ◌||◌, cond, find, not}
use Rattle.std.specs.List.{filter, list_all}
use Rattle.std.proofs.lemmas.Bool.{and_parts, both_ways}
use Rattle.std.proofs.lemmas.List.Elements.{All-contains_itself, All-weaker}
use Rattle.std.proofs.lemmas.List.Sums.{sum_by-cons}
use Rattle.lfs_fs.specs.Front.{pair_names, pairs_name}
use Rattle.lfs_fs.specs.Gathering.{PairPart}
use Rattle.lfs_fs.proofs.ContainsLemmas.{contains_cases, contains_first, contains_later, contains_none}
use Rattle.lfs_lower.proofs.PartsPut.{pairs_in}

pub omega_none : (b : ℕ) {changed all names : ℕ} → changed + names ≤ all → all ≤ 1 → 1 ≤ names → changed ≡ 0
omega_none b less once some = omega (arith, less, once, some)

pub contains_of : {X Y : Type 0} (f : X → Y) (xs : List X) (y : Y) → Contains (map f xs) y → (x : X) × Contains xs x × (f x ≡ y)
contains_of f [] y there = absurd (contains_none y there)
contains_of f (x ∷ xs) y there =
    elim (contains_cases (f x) (map f xs) y there) [
      | inl is ↦ (x, contains_first x xs, sym is)
      | inr later ↦ (let rest = contains_of f xs y later in (rest.0, contains_later x xs rest.0 rest.1, rest.2))
    ]

-- what all pass, each passes
pub each_passes : (test : PairPart → Bool) (ps : List PairPart) (p : PairPart) → list_all test ps ≡ true → Contains ps p → test p ≡ true
each_passes test [] p all there = absurd (contains_none p there)
each_passes test (q ∷ ps) p all there =
    let both = and_parts (test q) (list_all test ps) all in
    elim (contains_cases q ps p there) [ inl is ↦ ap test is ∙ both.0 | inr later ↦ each_passes test ps p both.1 later ]

fails_by : (test : PairPart → Bool) (t : Bool) (y x : PairPart) (ys : List PairPart) → test y ≡ t → cond t (Some y) (find test ys) ≡ None
    → (x ≡ y) ⊎ (find test ys ≡ None → test x ≡ false) → test x ≡ false
fails_by test true y x ys is none rest = cc
fails_by test false y x ys is none (inl same) = ap test same ∙ is
fails_by test false y x ys is none (inr later) = later none

-- what isn't found fails
pub fails : (test : PairPart → Bool) (xs : List PairPart) (x : PairPart) → find test xs ≡ None → Contains xs x → test x ≡ false
fails test [] x none there = absurd (contains_none x there)
fails test (y ∷ xs) x none there =
    fails_by test (test y) y x xs refl none
    (elim (contains_cases y xs x there) [ inl is ↦ inl is | inr later ↦ inr (λ n. fails test xs x n later) ])

pub all_are : (P : PairPart → Type 0) (ps : List PairPart) → ((p : PairPart) → Contains ps p → P p) → All P ps
all_are P ps each = All-weaker (Contains ps) P each ps (All-contains_itself ps)

inside_by : (t : Bool) (y : PairPart) (ys xs : List PairPart) (x : PairPart) → (Contains ys x → Contains xs x)
    → Contains (cond t (y ∷ ys) ys) x → Contains (y ∷ xs) x
inside_by true y ys xs x rest there =
    elim (contains_cases y ys x there) [
      | inl is ↦ subst (Contains (y ∷ xs)) (sym is) (contains_first y xs)
      | inr later ↦ contains_later y xs x (rest later)
    ]
inside_by false y ys xs x rest there = contains_later y xs x (rest there)

pub inside : (test : PairPart → Bool) (xs : List PairPart) (x : PairPart) → Contains (filter test xs) x → Contains xs x
inside test [] x there = there
inside test (y ∷ xs) x there = inside_by (test y) y (filter test xs) xs x (inside test xs x) there

fewer_by : (b : ℕ) (t : Bool) (p : PairPart) (qs ps : List PairPart) → pairs_name b (pairs_in qs) ≤ pairs_name b (pairs_in ps)
    → pairs_name b (pairs_in (cond t (p ∷ qs) qs)) ≤ pairs_name b (pairs_in (p ∷ ps))
fewer_by b true p qs ps fewer =
    omega (arith, fewer, sum_by-cons (pair_names b) p.0 (pairs_in qs), sum_by-cons (pair_names b) p.0 (pairs_in ps))
fewer_by b false p qs ps fewer = omega (arith, fewer, sum_by-cons (pair_names b) p.0 (pairs_in ps))

-- a part left out names no more blocks
pub fewer : (b : ℕ) (test : PairPart → Bool) (ps : List PairPart) → pairs_name b (pairs_in (filter test ps)) ≤ pairs_name b (pairs_in ps)
fewer b test [] = omega arith
fewer b test (p ∷ ps) = fewer_by b (test p) p (filter test ps) ps (fewer b test ps)

-- one that is left out names blocks that those that stay don't
left_out_by : (b : ℕ) (test : PairPart → Bool) (t : Bool) (p q : PairPart) (ps : List PairPart) → test p ≡ t → test q ≡ false
    → (q ≡ p) ⊎ (pairs_name b (pairs_in (filter test ps)) + pair_names b q.0 ≤ pairs_name b (pairs_in ps))
    → pairs_name b (pairs_in (cond t (p ∷ filter test ps) (filter test ps))) + pair_names b q.0 ≤ pairs_name b (pairs_in (p ∷ ps))
left_out_by b test true p q ps is out (inl same) = absurd (both_ways (test p) (sym (ap test same) ∙ out) is)
left_out_by b test true p q ps is out (inr rest) =
    omega (arith, rest, sum_by-cons (pair_names b) p.0 (pairs_in (filter test ps)), sum_by-cons (pair_names b) p.0 (pairs_in ps))
left_out_by b test false p q ps is out (inl same) =
    let names = ap (λ (x : PairPart). pair_names b x.0) same in
    omega (arith, names, fewer b test ps, sum_by-cons (pair_names b) p.0 (pairs_in ps))
left_out_by b test false p q ps is out (inr rest) = omega (arith, rest, sum_by-cons (pair_names b) p.0 (pairs_in ps))

pub left_out : (b : ℕ) (test : PairPart → Bool) (ps : List PairPart) (q : PairPart) → Contains ps q → test q ≡ false
    → pairs_name b (pairs_in (filter test ps)) + pair_names b q.0 ≤ pairs_name b (pairs_in ps)
left_out b test [] q there out = absurd (contains_none q there)
left_out b test (p ∷ ps) q there out =
    left_out_by b test (test p) p q ps refl out
    (elim (contains_cases p ps q there) [ inl is ↦ inl is | inr later ↦ inr (left_out b test ps q later out) ])

all_hold_by : (t c rest : Bool) → (cond (not t) (c && rest) rest) ≡ ((t || c) && rest)
all_hold_by true c rest = refl
all_hold_by false c rest = refl

split_all : (held can : PairPart → Bool) (t : Bool) (p : PairPart) (ps : List PairPart)
    → list_all can (cond t (p ∷ ps) ps) ≡ cond t (can p && list_all can ps) (list_all can ps)
split_all held can true p ps = refl
split_all held can false p ps = refl

-- whether those that aren't held can be put is whether each is held or can be
pub all_can_hold : (held can : PairPart → Bool) (ps : List PairPart)
    → list_all can (filter (λ p. not (held p)) ps) ≡ list_all (λ p. held p || can p) ps
all_can_hold held can [] = refl
all_can_hold held can (p ∷ ps) =
    split_all held can (not (held p)) p (filter (λ (x : PairPart). not (held x)) ps)
    ∙ all_hold_by (held p) (can p) (list_all can (filter (λ (x : PairPart). not (held x)) ps))
    ∙ ap (λ (b : Bool). (held p || can p) && b) (all_can_hold held can ps)

-- ---- parts that are put after others unless they pass a test

pushed_by : (t : Bool) (p : PairPart) (before rest : List PairPart) → before ++ cond t (p ∷ rest) rest ≡ (before ++ cond t (p ∷ []) []) ++ rest
pushed_by true p before rest = sym (append_assoc before (p ∷ []) rest)
pushed_by false p before rest = ap (λ (xs : List PairPart). xs ++ rest) (sym (append-nil before))

pub pushed_more : (test : PairPart → Bool) (held : Bool) (all before now : List PairPart) (p : PairPart) (rest : List PairPart) → held ≡ test p
    → now ≡ before ++ cond (not held) (p ∷ []) [] → all ≡ before ++ filter (λ x. not (test x)) (p ∷ rest)
    → all ≡ now ++ filter (λ x. not (test x)) rest
pushed_more test held all before now p rest is pushed left =
    left
    ∙ pushed_by (not (test p)) p before (filter (λ (x : PairPart). not (test x)) rest)
    ∙ ap (λ (b : Bool). (before ++ cond (not b) (p ∷ []) []) ++ filter (λ (x : PairPart). not (test x)) rest) (sym is)
    ∙ ap (λ (xs : List PairPart). xs ++ filter (λ (x : PairPart). not (test x)) rest) (sym pushed)

pub pushed_all : (test : PairPart → Bool) (all now rest : List PairPart) → length rest ≡ 0 → all ≡ now ++ filter (λ x. not (test x)) rest → now ≡ all
pushed_all test all now [] none left = sym (append-nil now) ∙ sym left
pushed_all test all now (x ∷ rest) none left = absurd (omega (arith, none))
