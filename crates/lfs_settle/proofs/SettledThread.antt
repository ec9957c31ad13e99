-- Settled parts are one thread without a state, and parts that are settled stay.
use Rattle.std.proofs.Common.{◌≡◌, ℕ, ◌≤◌, ◌==◌, Bool, true, false, List, [], ◌∷◌, ◌++◌, length, map, Option, Some, None, refl, ap, sym, ◌∙◌, subst, arith}
use Rattle.std.specs.Prelude.{bit_xor, cond, if◌then◌else◌}
use Rattle.std.specs.List.{filter}
use Rattle.std.proofs.lemmas.Bool.Decides.{nat_tests}
use Rattle.std.proofs.lemmas.List.{map-append}
use Rattle.std.proofs.lemmas.List.Sums.{sum_by-append}
use Rattle.lfs_meta.specs.declared.tail.Tail.{Tail}
use Rattle.lfs_meta.specs.declared.tail.Tail.TheVariants.{End, Hard, Soft}
use Rattle.lfs_meta.specs.Body.{Pair}
use Rattle.lfs_meta.specs.Runs.{onto}
use Rattle.lfs_fs.specs.Front.{pair_names, pairs_name}
use Rattle.lfs_fs.specs.Gathering.{PairPart, delta_from}
use Rattle.lfs_fs.specs.Thread.{is_hard, next, soft_to}
use Rattle.lfs_lower.proofs.PartsPut.{pairs_in}
use Rattle.lfs_settle.specs.Laws.{AreLinked, SettledAreLinked, SettledHaveNoState, SettledNameNoMore, SettledStay, first_pair}
use Rattle.lfs_settle.specs.Moved.{unmoved}
use Rattle.lfs_settle.specs.Reached.{begins_in, groups, named_within, parts_of, reached_of}
use Rattle.lfs_settle.specs.Settled.{cleared, ending, tail_to, threaded, without_share}
use Rattle.lfs_settle.proofs.MovedEntry.{none_moved}

-- ---- the state

pub shares_none : (ps : List PairPart) → delta_from (map without_share ps) ≡ 0
shares_none [] = refl
shares_none (p ∷ ps) = ap (λ (n : ℕ). bit_xor 0 n) (shares_none ps)

cleared_none : (t : Bool) (ps : List PairPart) → (delta_from ps == 0) ≡ t → delta_from (if t then ps else map without_share ps) ≡ 0
cleared_none true ps is = grind (arith, nat_tests)
cleared_none false ps is = shares_none ps

pub settled_no_state : SettledHaveNoState
settled_no_state ps =
    let before = threaded (reached_of (groups (map (unmoved (delta_from ps)) ps))) in cleared_none (delta_from before == 0) before refl

-- parts without a state aren't cleared
cleared_stay : (ps : List PairPart) → delta_from ps ≡ 0 → cleared ps ≡ ps
cleared_stay ps none = ap (λ (n : ℕ). if n == 0 then ps else map without_share ps) none

-- ---- directories of parts

-- each part of a directory leads to the next one
abbrev pub IsDirectory : List PairPart → Type 0
IsDirectory [] = ⊥
IsDirectory (p ∷ []) = Unit {0}
IsDirectory (p ∷ q ∷ ps) = (next p.1.tail ≡ Some q.0) × IsDirectory (q ∷ ps)

abbrev pub AreDirectories : List (List PairPart) → Type 0
AreDirectories [] = Unit {0}
AreDirectories (g ∷ gs) = IsDirectory g × AreDirectories gs

-- directories whose first part is this
pub record BeginWith (p : PairPart) (gs : List (List PairPart)) : Type 0 where
  pub parts : List PairPart
  pub more : List (List PairPart)
  pub is : gs ≡ (p ∷ parts) ∷ more

-- a part put before directories
abbrev pub put_before : Bool → PairPart → List (List PairPart) → List (List PairPart)
put_before hard p gs = if hard then onto p gs else (p ∷ []) ∷ gs

begin_by : (hard : Bool) (p : PairPart) (gs : List (List PairPart)) → BeginWith p (put_before hard p gs)
unfolding onto
begin_by true p [] = record { parts = []; more = []; is = refl }
begin_by true p (g ∷ gs) = record { parts = g; more = gs; is = refl }
begin_by false p gs = record { parts = []; more = gs; is = refl }

pub groups_begin : (p : PairPart) (ps : List PairPart) → BeginWith p (groups (p ∷ ps))
groups_begin p ps = begin_by (is_hard p.1.tail) p (groups ps)

directories_by : (hard : Bool) (p : PairPart) (ps : List PairPart) → next p.1.tail ≡ first_pair ps → AreDirectories (groups ps)
    → AreDirectories (put_before hard p (groups ps))
unfolding onto
directories_by false p ps link rest = (tt, rest)
directories_by true p [] link rest = (tt, tt)
directories_by true p (q ∷ ps) link rest =
    let begun = groups_begin q ps in
    let split : AreDirectories ((q ∷ begun.parts) ∷ begun.more) = subst AreDirectories begun.is rest in
    let whole : AreDirectories ((p ∷ q ∷ begun.parts) ∷ begun.more) = ((link, split.0), split.1) in
    subst (λ (gs : List (List PairPart)). AreDirectories (onto p gs)) (sym begun.is) whole

pub groups_directories : (ps : List PairPart) → AreLinked ps → AreDirectories (groups ps)
groups_directories [] linked = tt
groups_directories (p ∷ ps) linked = directories_by (is_hard p.1.tail) p ps linked.0 (groups_directories ps linked.1)

filtered_by : (t : Bool) (g : List PairPart) (gs : List (List PairPart)) → IsDirectory g → AreDirectories gs
    → AreDirectories (cond t (g ∷ gs) gs)
filtered_by true g gs here rest = (here, rest)
filtered_by false g gs here rest = rest

filtered_directories : (test : List PairPart → Bool) (gs : List (List PairPart)) → AreDirectories gs → AreDirectories (filter test gs)
filtered_directories test [] all = tt
filtered_directories test (g ∷ gs) all = filtered_by (test g) g (filter test gs) all.0 (filtered_directories test gs all.1)

-- ---- one thread

first_ending : (tail : Tail) (q : PairPart) (ps rest : List PairPart) → first_pair (ending tail (q ∷ ps) ++ rest) ≡ Some q.0
first_ending tail q [] rest = refl
first_ending tail q (p ∷ ps) rest = refl

leads_to_first : (gs : List (List PairPart)) → AreDirectories gs → next (tail_to gs) ≡ first_pair (threaded gs)
leads_to_first [] all = refl
leads_to_first ([] ∷ gs) all = absurd all.0
leads_to_first ((p ∷ ps) ∷ gs) all = sym (first_ending (tail_to gs) p ps (threaded gs))

linked_ending : (tail : Tail) (g rest : List PairPart) → IsDirectory g → next tail ≡ first_pair rest → AreLinked rest
    → AreLinked (ending tail g ++ rest)
linked_ending tail [] rest directory leads linked = absurd directory
linked_ending tail (p ∷ []) rest directory leads linked = (leads, linked)
linked_ending tail (p ∷ q ∷ ps) rest directory leads linked =
    (directory.0 ∙ sym (first_ending tail q ps rest), linked_ending tail (q ∷ ps) rest directory.1 leads linked)

threaded_linked : (gs : List (List PairPart)) → AreDirectories gs → AreLinked (threaded gs)
threaded_linked [] all = tt
threaded_linked (g ∷ gs) all =
    linked_ending (tail_to gs) g (threaded gs) all.0 (leads_to_first gs all.1) (threaded_linked gs all.1)

-- parts with other entries or shares
module _ (f : PairPart → PairPart) (pair : (p : PairPart) → (f p).0 ≡ p.0) (tail : (p : PairPart) → (f p).1.tail ≡ p.1.tail) where
  first_same : (ps : List PairPart) → first_pair (map f ps) ≡ first_pair ps
  first_same [] = refl
  first_same (p ∷ ps) = ap (λ (x : Pair). Some x) (pair p)

  pub linked_same : (ps : List PairPart) → AreLinked ps → AreLinked (map f ps)
  linked_same [] linked = tt
  linked_same (p ∷ ps) linked = (ap next (tail p) ∙ linked.0 ∙ sym (first_same ps), linked_same ps linked.1)

  pub pairs_same : (ps : List PairPart) → pairs_in (map f ps) ≡ pairs_in ps
  pairs_same [] = refl
  pairs_same (p ∷ ps) = ap (λ (x : Pair). x ∷ pairs_in (map f ps)) (pair p) ∙ ap (λ (xs : List Pair). p.0 ∷ xs) (pairs_same ps)

cleared_linked : (t : Bool) (ps : List PairPart) → AreLinked ps → AreLinked (if t then ps else map without_share ps)
cleared_linked true ps linked = linked
cleared_linked false ps linked = linked_same without_share (λ p. refl) (λ p. refl) ps linked

pub settled_linked : SettledAreLinked
settled_linked ps linked =
    let left = map (unmoved (delta_from ps)) ps in
    let before = threaded (reached_of (groups left)) in
    cleared_linked (delta_from before == 0) before
    (threaded_linked (reached_of (groups left))
    (filtered_directories (begins_in (named_within (groups left) (length (groups left)))) (groups left)
    (groups_directories left (linked_same (unmoved (delta_from ps)) (λ p. refl) (λ p. refl) ps linked))))

-- ---- no block is named more often

ending_pairs : (tail : Tail) (g : List PairPart) → pairs_in (ending tail g) ≡ pairs_in g
ending_pairs tail [] = refl
ending_pairs tail (p ∷ []) = refl
ending_pairs tail (p ∷ q ∷ ps) = ap (λ (xs : List Pair). p.0 ∷ xs) (ending_pairs tail (q ∷ ps))

pub threaded_pairs : (gs : List (List PairPart)) → pairs_in (threaded gs) ≡ pairs_in (parts_of gs)
threaded_pairs [] = refl
threaded_pairs (g ∷ gs) =
    map-append (λ (p : PairPart). p.0) (ending (tail_to gs) g) (threaded gs)
    ∙ ap (λ (xs : List Pair). xs ++ pairs_in (threaded gs)) (ending_pairs (tail_to gs) g)
    ∙ ap (λ (xs : List Pair). pairs_in g ++ xs) (threaded_pairs gs)
    ∙ sym (map-append (λ (p : PairPart). p.0) g (parts_of gs))

fewer_by : (b : ℕ) (t : Bool) (g : List PairPart) (gs hs : List (List PairPart))
    → pairs_name b (pairs_in (parts_of hs)) ≤ pairs_name b (pairs_in (parts_of gs))
    → pairs_name b (pairs_in (parts_of (cond t (g ∷ hs) hs))) ≤ pairs_name b (pairs_in (parts_of (g ∷ gs)))
fewer_by b true g gs hs fewer =
    let here = ap (pairs_name b) (map-append (λ (p : PairPart). p.0) g (parts_of hs)) in
    let there = ap (pairs_name b) (map-append (λ (p : PairPart). p.0) g (parts_of gs)) in
    omega (
      arith,
      sum_by-append (pair_names b) (pairs_in g) (pairs_in (parts_of hs)),
      sum_by-append (pair_names b) (pairs_in g) (pairs_in (parts_of gs)),
    )
fewer_by b false g gs hs fewer =
    let there = ap (pairs_name b) (map-append (λ (p : PairPart). p.0) g (parts_of gs)) in
    omega (arith, sum_by-append (pair_names b) (pairs_in g) (pairs_in (parts_of gs)))

filtered_fewer : (b : ℕ) (test : List PairPart → Bool) (gs : List (List PairPart))
    → pairs_name b (pairs_in (parts_of (filter test gs))) ≤ pairs_name b (pairs_in (parts_of gs))
filtered_fewer b test [] = omega arith
filtered_fewer b test (g ∷ gs) = fewer_by b (test g) g gs (filter test gs) (filtered_fewer b test gs)

parts_by : (hard : Bool) (p : PairPart) (gs : List (List PairPart)) → parts_of (put_before hard p gs) ≡ p ∷ parts_of gs
unfolding onto
parts_by true p [] = refl
parts_by true p (g ∷ gs) = refl
parts_by false p gs = refl

pub parts_of_groups : (ps : List PairPart) → parts_of (groups ps) ≡ ps
parts_of_groups [] = refl
parts_of_groups (p ∷ ps) = parts_by (is_hard p.1.tail) p (groups ps) ∙ ap (λ (xs : List PairPart). p ∷ xs) (parts_of_groups ps)

cleared_pairs : (t : Bool) (ps : List PairPart) → pairs_in (if t then ps else map without_share ps) ≡ pairs_in ps
cleared_pairs true ps = refl
cleared_pairs false ps = pairs_same without_share (λ p. refl) (λ p. refl) ps

pub settled_name_no_more : SettledNameNoMore
settled_name_no_more ps b =
    let left = map (unmoved (delta_from ps)) ps in
    let before = threaded (reached_of (groups left)) in
    let cleared_same = ap (pairs_name b) (cleared_pairs (delta_from before == 0) before) in
    let threaded_same = ap (pairs_name b) (threaded_pairs (reached_of (groups left))) in
    let fewer = filtered_fewer b (begins_in (named_within (groups left) (length (groups left)))) (groups left) in
    let all = ap (λ (xs : List PairPart). pairs_name b (pairs_in xs)) (parts_of_groups left) in
    let unmoved_same = ap (pairs_name b) (pairs_same (unmoved (delta_from ps)) (λ p. refl) (λ p. refl) ps) in
    omega arith

-- ---- what stays

abbrev tail_by : Option Pair → Tail
tail_by None = End
tail_by (Some p) = soft_to p

tail_is : (tail : Tail) (o : Option Pair) → is_hard tail ≡ false → next tail ≡ o → tail ≡ tail_by o
tail_is End o soft is = ap tail_by is
tail_is (Soft first second) o soft is = ap tail_by is
tail_is (Hard first second) o soft is = cc

hard_leads : (tail : Tail) → is_hard tail ≡ true → next tail ≡ None → ⊥
hard_leads End hard none = cc
hard_leads (Soft first second) hard none = cc
hard_leads (Hard first second) hard none = cc

tail_to_groups : (ps : List PairPart) → tail_to (groups ps) ≡ tail_by (first_pair ps)
tail_to_groups [] = refl
tail_to_groups (p ∷ ps) = ap tail_to (groups_begin p ps).is

threaded_by : (hard : Bool) (p : PairPart) (ps : List PairPart) → is_hard p.1.tail ≡ hard → next p.1.tail ≡ first_pair ps
    → threaded (groups ps) ≡ ps → threaded (put_before hard p (groups ps)) ≡ p ∷ ps
unfolding onto
threaded_by false p ps soft link rest =
    ap (λ (t : Tail). (p.0, record { entries = p.1.entries; tail = t; delta = p.1.delta }) ∷ threaded (groups ps))
    (tail_to_groups ps ∙ sym (tail_is p.1.tail (first_pair ps) soft link))
    ∙ ap (λ (xs : List PairPart). p ∷ xs) rest
threaded_by true p [] hard link rest = absurd (hard_leads p.1.tail hard link)
threaded_by true p (q ∷ ps) hard link rest =
    let begun = groups_begin q ps in
    ap (λ (gs : List (List PairPart)). threaded (onto p gs)) begun.is
    ∙ ap (λ (xs : List PairPart). p ∷ xs) (ap threaded (sym begun.is) ∙ rest)

-- a thread cut into directories is that thread
pub threaded_groups : (ps : List PairPart) → AreLinked ps → threaded (groups ps) ≡ ps
threaded_groups [] linked = refl
threaded_groups (p ∷ ps) linked = threaded_by (is_hard p.1.tail) p ps refl linked.0 (threaded_groups ps linked.1)

none_moved_of : (ps : List PairPart) → map (unmoved 0) ps ≡ ps
none_moved_of [] = refl
none_moved_of (p ∷ ps) =
    ap (λ (x : PairPart). x ∷ map (unmoved 0) ps) (none_moved p) ∙ ap (λ (xs : List PairPart). p ∷ xs) (none_moved_of ps)

pub settled_stay : SettledStay
settled_stay ps none linked reached =
    ap (λ (n : ℕ). cleared (threaded (reached_of (groups (map (unmoved n) ps))))) none
    ∙ ap (λ (xs : List PairPart). cleared (threaded (reached_of (groups xs)))) (none_moved_of ps)
    ∙ ap (λ (gs : List (List PairPart)). cleared (threaded gs)) reached
    ∙ ap cleared (threaded_groups ps linked)
    ∙ cleared_stay ps none
