-- Directories are found to be reached, one after another.
use Rattle.std.proofs.Common.{◌≡◌, ◌⊎◌, inl, inr, ℕ, zero, suc, ◌+◌, ◌<◌, Bool, true, false, List, [], ◌∷◌, ◌++◌, length, map, replicate, Option, Some, None, refl, ap, sym, ◌∙◌, subst, arith, set, get_or, take}
use Rattle.std.specs.Prelude.{Contains, IfSome, cond, not, slice_get, if◌then◌else◌}
use Rattle.std.specs.List.{filter, list_any}
use Rattle.std.proofs.lemmas.Bool.{both_ways, cases_eq, or_cases}
use Rattle.std.proofs.lemmas.Grind.{flat_map-append}
use Rattle.std.proofs.lemmas.List.{get_or-set_other, get_or-set_same, length-append, length-replicate, length-set, length-take-le}
use Rattle.std.proofs.lemmas.List.Elements.{All-nil, All-push, Contains-append_left, Contains-push, Contains-push_cases}
use Rattle.std.proofs.lemmas.List.Folds.{list_any-append}
use Rattle.std.proofs.lemmas.List.Sums.{sum_by-set}
use Rattle.lfs_meta.specs.Body.{Pair}
use Rattle.lfs_fs.specs.DirectoryTable.{look_up}
use Rattle.lfs_fs.specs.Gathering.{PairPart}
use Rattle.lfs_fs.specs.Pair.{root, unordered}
use Rattle.lfs_fs.specs.Used.{unmarked}
use Rattle.lfs_fs.proofs.ContainsLemmas.{contains_cases, contains_first, contains_later, contains_none}
use Rattle.lfs_fs.proofs.DirectoryTableLemmas.{slice_get_left, slice_get_seam}
use Rattle.lfs_fs.proofs.PairLemmas.{same_pair-symmetric}
use Rattle.lfs_fs.proofs.StoredLemmas.{all_got}
use Rattle.lfs_settle.specs.InStep.{pairs_named, same_blocks}
use Rattle.lfs_settle.specs.Reached.{begins_in, named_within, parts_of, reached_of, unreached_of}
use Rattle.lfs_settle.specs.Reaching.{AreApart, AreFlagged, AreListed, AreReaching, FlagsNamed, FlagsOne, Stands, begins_with, flag, flagged}
use Rattle.lfs_settle.proofs.DirectoriesOfGroups.{keyed_among}
use Rattle.lfs_settle.proofs.NextItems.{next_taken}
use Rattle.lfs_settle.proofs.ReachedGroups.{IsNamed, begins_more, both_true, contains_filtered, either_true, passed, path_within}

-- a directory
abbrev Group : Type 0
Group = List PairPart

-- ---- places

got_within : {X : Type 0} (xs : List X) (i : ℕ) (x : X) → slice_get xs i ≡ Some x → i < length xs
got_within [] i x at = cc
got_within (y ∷ xs) zero x at = omega arith
got_within (y ∷ xs) (suc i) x at = let rest = got_within xs i x at in omega arith

got_contains : {X : Type 0} (xs : List X) (i : ℕ) (x : X) → slice_get xs i ≡ Some x → Contains xs x
got_contains [] i x at = cc
got_contains (y ∷ xs) zero x at = let same : y ≡ x = cc in subst (Contains (y ∷ xs)) same (contains_first y xs)
got_contains (y ∷ xs) (suc i) x at = contains_later y xs x (got_contains xs i x at)

contains_got : {X : Type 0} (xs : List X) (x : X) → Contains xs x → (i : ℕ) × (slice_get xs i ≡ Some x)
contains_got [] x there = absurd (contains_none x there)
contains_got (y ∷ xs) x there =
    elim (contains_cases y xs x there) [
      | inl is ↦ (0, ap (λ (z : _). Some z) (sym is))
      | inr later ↦ (let rest = contains_got xs x later in (suc rest.0, rest.1))
    ]

-- ---- a table of directories

stands_more : (gs : List Group) (h : Group) (k : Pair) (o : Option ℕ) → begins_with k h ≡ false → Stands gs k o → Stands (gs ++ h ∷ []) k o
stands_more gs h k None other all = All-push (λ (x : Group). begins_with k x ≡ false) gs h all other
stands_more gs h k (Some i) other (g, at, is) = (g, slice_get_left gs (h ∷ []) i g at, is)

stands_by : (b : Bool) (gs : List Group) (g : Group) (k : Pair) (old : Option ℕ) → begins_with k g ≡ b → Stands gs k old
    → Stands (gs ++ g ∷ []) k (cond b (Some (length gs)) old)
stands_by true gs g k old is h = (g, slice_get_seam gs g [], is)
stands_by false gs g k old is h = stands_more gs g k old is h

pub none_listed : (table : List (Pair × ℕ)) → table ≡ [] → AreListed [] table
none_listed table is =
    subst (λ (t : List (Pair × ℕ)). AreListed [] t) (sym is) (λ k. All-nil (λ (g : Group). begins_with k g ≡ false))

-- the next directory is put in
pub listed_more : (gs : List Group) (i : ℕ) (g : Group) (table after : List (Pair × ℕ)) → i < length gs → g ≡ get_or gs i g
    → ((k : Pair) → look_up k after ≡ cond (begins_with k g) (Some i) (look_up k table)) → AreListed (take i gs) table
    → AreListed (take (i + 1) gs) after
listed_more gs i g table after within at updates h k =
    let len : length (take i gs) ≡ i = length-take-le i gs (omega arith) in
    let same : look_up k after ≡ cond (begins_with k g) (Some (length (take i gs))) (look_up k table) =
    updates k ∙ ap (λ (n : ℕ). cond (begins_with k g) (Some n) (look_up k table)) (sym len) in
    subst (λ (hs : List Group). Stands hs k (look_up k after)) (sym (next_taken gs i g within at))
    (subst (Stands (take i gs ++ g ∷ []) k) (sym same) (stands_by (begins_with k g) (take i gs) g k (look_up k table) refl (h k)))

within_by : (gs : List Group) (k : Pair) (n : ℕ) (o : Option ℕ) → n ≡ length gs → Stands gs k o → IfSome o (λ i. i < n)
within_by gs k n None len stands = tt
within_by gs k n (Some i) len stands = omega (arith, len, got_within gs i stands.0 stands.1)

-- each number in the table is one of a directory
pub listed_within : (gs : List Group) (table : List (Pair × ℕ)) (n : ℕ) → AreListed gs table → n ≡ length gs → (k : Pair)
    → IfSome (look_up k table) (λ i. i < n)
listed_within gs table n listed len k = within_by gs k n (look_up k table) len (listed k)

-- a directory that waits is one of them
pub waits_within : (gs : List Group) (flags : List Bool) (waiting : List ℕ) (i : ℕ) → AreReaching gs flags (waiting ++ i ∷ []) → i < length gs
waits_within gs flags waiting i h =
    let of = h.reached i (h.waits i (Contains-push waiting i)) in got_within gs i of.0 of.1

-- ---- flags

set_there : (flags : List Bool) (i j : ℕ) → i < length flags → flag flags j ≡ true → flag (set flags i true) j ≡ true
set_there flags i j within is =
    elim (cases_eq j i) [
      | inl same ↦ ap (flag (set flags i true)) same ∙ get_or-set_same flags i true false within
      | inr apart ↦ get_or-set_other flags i j true false apart ∙ is
    ]

set_only : (flags : List Bool) (i j : ℕ) → flag (set flags i true) j ≡ true → (j ≡ i) ⊎ (flag flags j ≡ true)
set_only flags i j is =
    elim (cases_eq j i) [ inl same ↦ inl same | inr apart ↦ inr (sym (get_or-set_other flags i j true false apart) ∙ is) ]

set_fewer : (flags : List Bool) (i : ℕ) → i < length flags → flag flags i ≡ false → unmarked (set flags i true) + 1 ≡ unmarked flags
set_fewer flags i within is =
    omega (
      arith,
      sum_by-set (λ (u : Bool). if not u then 1 else 0) flags i true false within,
      ap (λ (u : Bool). cond {A = ℕ} (not u) 1 0) is,
    )

none_flagged : (count i : ℕ) → flag (replicate count false) i ≡ false
none_flagged zero i = refl
none_flagged (suc count) zero = refl
none_flagged (suc count) (suc i) = none_flagged count i

-- ---- one pair

begins_is : (q : Pair) (g : Group) → begins_in (q ∷ []) g ≡ true → begins_with (unordered q) g ≡ true
begins_is q [] is = is
begins_is q (p ∷ ps) is =
    elim (or_cases (same_blocks p.0 q) false is) [
      | inl here ↦ same_pair-symmetric (unordered q) (unordered p.0) ∙ here
      | inr none ↦ absurd (both_ways false refl none)
    ]

is_begun : (q : Pair) (g : Group) → begins_with (unordered q) g ≡ true → begins_in (q ∷ []) g ≡ true
is_begun q [] is = is
is_begun q (p ∷ ps) is =
    either_true (same_blocks p.0 q) false (inl (same_pair-symmetric (unordered p.0) (unordered q) ∙ is))

nothing_flagged : (gs : List Group) (named : List Pair) (flags : List Bool) (waiting : List ℕ) → AreFlagged flags gs named
    → FlagsNamed gs named flags flags waiting waiting
nothing_flagged gs named flags waiting all = record {
  len = refl;
  stays = λ i is. is;
  only = λ i is. inl is;
  kept = λ i there. there;
  waits = λ i there. inl there;
  all = all;
  less = omega arith;
}

pub none_named : (gs : List Group) (flags : List Bool) (waiting : List ℕ) → FlagsNamed gs [] flags flags waiting waiting
none_named gs flags waiting = nothing_flagged gs [] flags waiting (λ i g at is. absurd (no_pair g is))
  where
    no_pair : (g : Group) → begins_in [] g ≡ true → ⊥
    no_pair [] is = cc
    no_pair (p ∷ ps) is = cc

module _ (gs : List Group) (q : Pair) (flags new : List Bool) (waiting more : List ℕ) (apart : AreApart gs) (len : length flags ≡ length gs) where
  only_one : (k : ℕ) (g : Group) → slice_get gs k ≡ Some g → begins_with (unordered q) g ≡ true → flag new k ≡ true
      → AreFlagged new gs (q ∷ [])
  only_one k g at is flagged i h there begins =
      ap (flag new) (apart i k h g (unordered q) there at (begins_is q h begins) is) ∙ flagged

  one_by : (o : Option ℕ) → Stands gs (unordered q) o → FlagsOne o flags new waiting more → FlagsNamed gs (q ∷ []) flags new waiting more
  one_by None stands h =
      let all : AreFlagged flags gs (q ∷ []) = λ i g at begins. absurd (both_ways (begins_with (unordered q) g)
      (all_got (λ (x : Group). begins_with (unordered q) x ≡ false) gs i g stands at) (begins_is q g begins)) in
      subst (λ (fs : List Bool). FlagsNamed gs (q ∷ []) flags fs waiting more) (sym h.0)
      (subst (FlagsNamed gs (q ∷ []) flags flags waiting) (sym h.1) (nothing_flagged gs (q ∷ []) flags waiting all))
  one_by (Some k) stands (inl h) =
      let there : flag new k ≡ true = ap (λ (fs : List Bool). flag fs k) h.1 ∙ h.0 in
      let all : AreFlagged flags gs (q ∷ []) = subst (λ (fs : List Bool). AreFlagged fs gs (q ∷ [])) h.1
      (only_one k stands.0 stands.1 stands.2 there) in
      subst (λ (fs : List Bool). FlagsNamed gs (q ∷ []) flags fs waiting more) (sym h.1)
      (subst (FlagsNamed gs (q ∷ []) flags flags waiting) (sym h.2) (nothing_flagged gs (q ∷ []) flags waiting all))
  one_by (Some k) stands (inr h) =
      let within : k < length flags = omega (arith, len, got_within gs k stands.0 stands.1) in
      let there : flag new k ≡ true = ap (λ (fs : List Bool). flag fs k) h.1 ∙ get_or-set_same flags k true false within in
      record {
        len = ap length h.1 ∙ length-set flags k true;
        stays = λ i is. ap (λ (fs : List Bool). flag fs i) h.1 ∙ set_there flags k i within is;
        only = λ i is. elim (set_only flags k i (sym (ap (λ (fs : List Bool). flag fs i) h.1) ∙ is)) [
          | inl same ↦ inr (
            subst (λ (ks : List ℕ). Contains ks i) (sym h.2) (subst (Contains (waiting ++ k ∷ [])) (sym same) (Contains-push waiting k)),
            (stands.0, ap (slice_get gs) same ∙ stands.1, is_begun q stands.0 stands.2),
          )
          | inr old ↦ inl old
        ];
        kept = λ i there. subst (λ (ks : List ℕ). Contains ks i) (sym h.2) (Contains-append_left waiting (k ∷ []) i there);
        waits = λ i waits. elim (Contains-push_cases waiting k i (subst (λ (ks : List ℕ). Contains ks i) h.2 waits)) [
          | inl old ↦ inl old
          | inr same ↦ inr (ap (flag new) (sym same) ∙ there)
        ];
        all = only_one k stands.0 stands.1 stands.2 there;
        less = omega (arith, ap unmarked h.1, set_fewer flags k within h.0, ap length h.2, length-append waiting (k ∷ []));
      }

pub one_flagged : (gs : List Group) (table : List (Pair × ℕ)) (q : Pair) (flags new : List Bool) (waiting more : List ℕ) → AreListed gs table
    → AreApart gs → length flags ≡ length gs → FlagsOne (look_up (unordered q) table) flags new waiting more
    → FlagsNamed gs (q ∷ []) flags new waiting more
one_flagged gs table q flags new waiting more listed apart len h =
    one_by gs q flags new waiting more apart len (look_up (unordered q) table) (listed (unordered q)) h

-- ---- pairs one after another

begins_left : (xs ys : List Pair) (g : Group) → begins_in xs g ≡ true → begins_in (xs ++ ys) g ≡ true
begins_left xs ys = begins_more xs (xs ++ ys)
    (λ k is. list_any-append (same_blocks k) xs ys ∙ either_true (list_any (same_blocks k) xs) (list_any (same_blocks k) ys) (inl is))

begins_right : (xs ys : List Pair) (g : Group) → begins_in ys g ≡ true → begins_in (xs ++ ys) g ≡ true
begins_right xs ys = begins_more ys (xs ++ ys)
    (λ k is. list_any-append (same_blocks k) xs ys ∙ either_true (list_any (same_blocks k) xs) (list_any (same_blocks k) ys) (inr is))

begins_either : (xs ys : List Pair) (g : Group) → begins_in (xs ++ ys) g ≡ true → (begins_in xs g ≡ true) ⊎ (begins_in ys g ≡ true)
begins_either xs ys [] is = inl is
begins_either xs ys (p ∷ ps) is =
    or_cases (list_any (same_blocks p.0) xs) (list_any (same_blocks p.0) ys) (sym (list_any-append (same_blocks p.0) xs ys) ∙ is)

pub flags_both : (gs : List Group) (xs ys : List Pair) (flags between new : List Bool) (waiting some' more : List ℕ)
    → FlagsNamed gs xs flags between waiting some' → FlagsNamed gs ys between new some' more
    → FlagsNamed gs (xs ++ ys) flags new waiting more
flags_both gs xs ys flags between new waiting some' more first second = record {
  len = second.len ∙ first.len;
  stays = λ i is. second.stays i (first.stays i is);
  only = λ i is. elim (second.only i is) [
    | inl old ↦ elim (first.only i old) [
      | inl older ↦ inl older
      | inr named ↦ inr (second.kept i named.0, (named.1.0, named.1.1, begins_left xs ys named.1.0 named.1.2))
    ]
    | inr named ↦ inr (named.0, (named.1.0, named.1.1, begins_right xs ys named.1.0 named.1.2))
  ];
  kept = λ i there. second.kept i (first.kept i there);
  waits = λ i waits. elim (second.waits i waits) [
    | inl old ↦ elim (first.waits i old) [ inl older ↦ inl older | inr is ↦ inr (second.stays i is) ]
    | inr is ↦ inr is
  ];
  all = λ i g at begins. elim (begins_either xs ys g begins) [
    | inl left ↦ second.stays i (first.all i g at left)
    | inr right ↦ second.all i g at right
  ];
  less = omega (arith, first.less, second.less);
}

-- ---- a directory more

-- at first the root's
pub reaching_root : (gs : List Group) (count : ℕ) (new : List Bool) (more : List ℕ) → count ≡ length gs
    → FlagsNamed gs (root ∷ []) (replicate count false) new [] more → AreReaching gs new more
reaching_root gs count new more len h = record {
  len = h.len ∙ length-replicate count false ∙ len;
  reached = λ i is. elim (h.only i is) [
    | inl old ↦ absurd (both_ways (flag (replicate count false) i) (none_flagged count i) old)
    | inr named ↦ (named.1.0, named.1.1, (0, named.1.2))
  ];
  waits = λ i waits. elim (h.waits i waits) [ inl none ↦ absurd (contains_none i none) | inr is ↦ is ];
  closed = λ i g at is. elim (h.only i is) [
    | inl old ↦ absurd (both_ways (flag (replicate count false) i) (none_flagged count i) old)
    | inr named ↦ inl named.0
  ];
  root = h.all;
}

pub reaching_start : (gs : List Group) (flags new : List Bool) (waiting more : List ℕ) (count : ℕ) → flags ≡ replicate count false → waiting ≡ []
    → count ≡ length gs → FlagsNamed gs (root ∷ []) flags new waiting more → AreReaching gs new more
reaching_start gs flags new waiting more count all none len h =
    reaching_root gs count new more len
    (subst (λ (ks : List ℕ). FlagsNamed gs (root ∷ []) (replicate count false) new ks more) none
    (subst (λ (fs : List Bool). FlagsNamed gs (root ∷ []) fs new waiting more) all h))

-- what a directory that is reached names is reached within one name more
named_next : (gs : List Group) (n : ℕ) (g h : Group) → Contains gs g → begins_in (named_within gs n) g ≡ true
    → begins_in (pairs_named g) h ≡ true → begins_in (named_within gs (suc n)) h ≡ true
named_next gs n g h there is = begins_more (pairs_named g) (named_within gs (suc n))
    (λ k named. either_true (same_blocks k root) (list_any (same_blocks k) (pairs_named (parts_of (filter (begins_in (named_within gs n)) gs))))
    (inr (keyed_among (unordered k) g (filter (begins_in (named_within gs n)) gs)
    (contains_filtered (begins_in (named_within gs n)) gs g there is) named))) h

pub reaching_more : (gs : List Group) (flags new : List Bool) (waiting more : List ℕ) (i : ℕ) (g : Group) → slice_get gs i ≡ Some g
    → AreReaching gs flags (waiting ++ i ∷ []) → FlagsNamed gs (pairs_named g) flags new waiting more → AreReaching gs new more
reaching_more gs flags new waiting more i g at old h =
    let here : flag flags i ≡ true = old.waits i (Contains-push waiting i) in
    let of = old.reached i here in
    let same : of.0 ≡ g = cc (of.1, at) in
    let begins : begins_in (named_within gs of.2.0) g ≡ true = subst (λ (x : Group). begins_in (named_within gs of.2.0) x ≡ true) same of.2.1 in
    record {
      len = h.len ∙ old.len;
      reached = λ j is. elim (h.only j is) [
        | inl older ↦ old.reached j older
        | inr named ↦ (
          named.1.0,
          named.1.1,
          (suc of.2.0, named_next gs of.2.0 g named.1.0 (got_contains gs i g at) begins named.1.2),
        )
      ];
      waits = λ j waits. elim (h.waits j waits) [
        | inl older ↦ h.stays j (old.waits j (Contains-append_left waiting (i ∷ []) j older))
        | inr is ↦ is
      ];
      closed = λ j x there is. elim (h.only j is) [
        | inl older ↦ elim (old.closed j x there older) [
          | inl waits ↦ elim (Contains-push_cases waiting i j waits) [
            | inl still ↦ inl (h.kept j still)
            | inr now ↦ (
                let one : g ≡ x = cc (at, ap (slice_get gs) now, there) in
                inr (subst (λ (y : Group). AreFlagged new gs (pairs_named y)) one h.all))
          ]
          | inr done ↦ inr (λ k y here begun. h.stays k (done k y here begun))
        ]
        | inr named ↦ inl named.0
      ];
      root = λ k y here begun. h.stays k (old.root k y here begun);
    }

-- ---- all of them

kept_inside : {X : Type 0} (test : X → Bool) (t : Bool) (y : X) (ys : List X) (xs : List X) (x : X) → (Contains ys x → Contains xs x)
    → Contains (cond t (y ∷ ys) ys) x → Contains (y ∷ xs) x
kept_inside test true y ys xs x rest there =
    elim (contains_cases y ys x there) [
      | inl is ↦ subst (Contains (y ∷ xs)) (sym is) (contains_first y xs)
      | inr later ↦ contains_later y xs x (rest later)
    ]
kept_inside test false y ys xs x rest there = contains_later y xs x (rest there)

filtered_inside : {X : Type 0} (test : X → Bool) (xs : List X) (x : X) → Contains (filter test xs) x → Contains xs x
filtered_inside test [] x there = there
filtered_inside test (y ∷ xs) x there = kept_inside test (test y) y (filter test xs) xs x (filtered_inside test xs x) there

-- what directories name, one of them does
named_in : (k : Pair) (gs : List Group) → IsNamed k (pairs_named (parts_of gs)) → (g : Group) × Contains gs g × IsNamed k (pairs_named g)
named_in k [] is = absurd (both_ways false refl is)
named_in k (g ∷ gs) is =
    elim (or_cases (list_any (same_blocks k) (pairs_named g)) (list_any (same_blocks k) (pairs_named (parts_of gs)))
    (sym (ap (list_any (same_blocks k)) (flat_map-append _ g (parts_of gs))
    ∙ list_any-append (same_blocks k) (pairs_named g) (pairs_named (parts_of gs))) ∙ is)) [
      | inl here ↦ (g, contains_first g gs, here)
      | inr later ↦ (let rest = named_in k gs later in (rest.0, contains_later g gs rest.0 rest.1, rest.2))
    ]

module _ (gs : List Group) (flags : List Bool) (h : AreReaching gs flags []) where
  all_flagged : (n i : ℕ) (g : Group) → slice_get gs i ≡ Some g → begins_in (named_within gs n) g ≡ true → flag flags i ≡ true
  all_flagged zero i g at is = h.root i g at is
  all_flagged (suc n) i [] at is = cc
  all_flagged (suc n) i (p ∷ ps) at is =
      elim (or_cases (same_blocks p.0 root) (list_any (same_blocks p.0) (pairs_named (parts_of (filter (begins_in (named_within gs n)) gs)))) is) [
        | inl here ↦ h.root i (p ∷ ps) at (either_true (same_blocks p.0 root) false (inl here))
        | inr later ↦ (
            let by = named_in p.0 (filter (begins_in (named_within gs n)) gs) later in
            let place = contains_got gs by.0 (filtered_inside (begins_in (named_within gs n)) gs by.0 by.1) in
            let reached = all_flagged n place.0 by.0 place.1 (passed (begins_in (named_within gs n)) gs by.0 by.1) in
            elim (h.closed place.0 by.0 place.1 reached) [
              | inl none ↦ absurd (contains_none place.0 none)
              | inr done ↦ done i (p ∷ ps) at by.2
            ])
      ]

  flag_is : (i : ℕ) (g : Group) → slice_get gs i ≡ Some g → flag flags i ≡ begins_in (named_within gs (length gs)) g
  flag_is i g at = both_true (flag flags i) (begins_in (named_within gs (length gs)) g)
      (λ is. let of = h.reached i is in let same : of.0 ≡ g = cc (of.1, at) in
      path_within gs of.2.0 g (got_contains gs i g at) (subst (λ (x : Group). begins_in (named_within gs of.2.0) x ≡ true) same of.2.1))
      (all_flagged (length gs) i g at)

flagged_by : (flags : List Bool) (gs : List Group) (test : Group → Bool) → length flags ≡ length gs
    → ((i : ℕ) (g : Group) → slice_get gs i ≡ Some g → flag flags i ≡ test g) → flagged flags gs ≡ filter test gs
flagged_by [] [] test len is = refl
flagged_by [] (g ∷ gs) test len is = absurd (omega (arith, len))
flagged_by (f ∷ flags) [] test len is = refl
flagged_by (f ∷ flags) (g ∷ gs) test len is =
    ap (λ (b : Bool). cond b (g ∷ flagged flags gs) (flagged flags gs)) (is 0 g refl)
    ∙ ap (λ (hs : List Group). cond (test g) (g ∷ hs) hs) (flagged_by flags gs test (omega (arith, len)) (λ i h at. is (suc i) h at))

-- those that have no flag
left_by : (f t : Bool) (g : Group) (gs hs : List Group) → f ≡ t → gs ≡ hs → cond (not f) (g ∷ gs) gs ≡ cond (not t) (g ∷ hs) hs
left_by f t g gs hs same rest = ap (λ (b : Bool). cond (not b) (g ∷ gs) gs) same ∙ ap (λ (xs : List Group). cond (not t) (g ∷ xs) xs) rest

unflagged_by : (flags : List Bool) (gs : List Group) (test : Group → Bool) → length flags ≡ length gs
    → ((i : ℕ) (g : Group) → slice_get gs i ≡ Some g → flag flags i ≡ test g) → flagged (map not flags) gs ≡ filter (λ g. not (test g)) gs
unflagged_by [] [] test len is = refl
unflagged_by [] (g ∷ gs) test len is = absurd (omega (arith, len))
unflagged_by (f ∷ flags) [] test len is = refl
unflagged_by (f ∷ flags) (g ∷ gs) test len is =
    left_by f (test g) g (flagged (map not flags) gs) (filter (λ (x : Group). not (test x)) gs) (is 0 g refl)
    (unflagged_by flags gs test (omega (arith, len)) (λ i h at. is (suc i) h at))

pub unflagged_are_left : (gs : List Group) (flags : List Bool) → AreReaching gs flags [] → flagged (map not flags) gs ≡ unreached_of gs
unflagged_are_left gs flags h = unflagged_by flags gs (begins_in (named_within gs (length gs))) h.len (flag_is gs flags h)

pub flagged_are_reached : (gs : List Group) (flags : List Bool) → AreReaching gs flags [] → flagged flags gs ≡ reached_of gs
flagged_are_reached gs flags h = flagged_by flags gs (begins_in (named_within gs (length gs))) h.len (flag_is gs flags h)
