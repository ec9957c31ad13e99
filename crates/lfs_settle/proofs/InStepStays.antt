-- A sound volume's thread is in step: each directory has one pair, and its entry names it.
use Rattle.std.proofs.Common.{◌≡◌, inl, inr, ℕ, suc, ◌≤◌, ◌==◌, Bool, true, false, List, [], ◌∷◌, ◌++◌, Option, Some, None, refl, ap, sym, ◌∙◌, subst, arith}
use Rattle.std.specs.Prelude.{Contains, cond, count_by, flat_map, if◌then◌else◌, nat_le, option_map, option_to_list}
use Rattle.std.specs.List.{slice_get}
use Rattle.std.specs.Option.{option_or}
use Rattle.std.proofs.lemmas.Bool.{eqb-true, or_cases}
use Rattle.std.proofs.lemmas.Bool.Decides.{nat_tests}
use Rattle.std.proofs.lemmas.List.Elements.{Contains-append_cases, Contains-append_right}
use Rattle.std.proofs.lemmas.List.Sums.{sum_by-cons}
use Rattle.lfs_meta.specs.declared.tail.Tail.{Tail}
use Rattle.lfs_meta.specs.declared.tail.Tail.TheVariants.{End, Hard, Soft}
use Rattle.lfs_meta.specs.Body.{Pair, StoredBody, Inline, Chain, Directory_at}
use Rattle.lfs_meta.specs.Entry.{StoredEntry}
use Rattle.lfs_meta.specs.Part.{StoredPart}
use Rattle.lfs_fs.specs.Pair.{root, same_pair, unordered}
use Rattle.lfs_fs.specs.Alike.{PairsAreOfParts}
use Rattle.lfs_fs.specs.Directory.{Directory, Part, begins_at, key, parts, thread}
use Rattle.lfs_fs.specs.Entry.{body_target}
use Rattle.lfs_fs.specs.Front.{Follow, after, next_pair, pair_names, pairs_name, tail_of}
use Rattle.lfs_fs.specs.FrontCause.{StoredOn}
use Rattle.lfs_fs.specs.Gathering.{PairPart}
use Rattle.lfs_fs.specs.Held.{directories_at, resolved_body}
use Rattle.lfs_fs.specs.Holds.{Holds}
use Rattle.lfs_fs.specs.Named.{named}
use Rattle.lfs_fs.specs.Reading.{Reading}
use Rattle.lfs_fs.specs.Sound.{IsSound}
use Rattle.lfs_fs.specs.Superblock.{superblock_entry}
use Rattle.lfs_fs.specs.Thread.{next, soft_to}
use Rattle.lfs_fs.specs.Volume.{Volume}
use Rattle.lfs_fs.proofs.ContainsLemmas.{contains_cases, contains_first, contains_later, contains_mapped, contains_none}
use Rattle.lfs_fs.proofs.CountLemmas.{element_le, names_some}
use Rattle.lfs_fs.proofs.EntryAtLemmas.{found}
use Rattle.lfs_fs.proofs.InVolumeLemmas.{stands}
use Rattle.lfs_fs.proofs.PairLemmas.{same_pair-is, same_pair-refl}
use Rattle.lfs_fs.proofs.ResolvedLemmas.{stood_for}
use Rattle.lfs_fs.proofs.StoredLemmas.{First, Later, standing}
use Rattle.lfs_lower.specs.Joining.{parts_held}
use Rattle.lfs_lower.proofs.GatheredParts.{held_none, held_some}
use Rattle.lfs_settle.specs.InStep.{first_with, has_block, in_step_with, pair_named, pairs_named, stepped_part, stepped_tail, stepped_to}

-- ---- entries that name a pair

record EntryNames (es : List StoredEntry) (q : Pair) : Type 0 where
  index : ℕ
  entry : StoredEntry
  at : slice_get es index ≡ Some entry
  names : pair_named entry.body ≡ Some q

one_named : (o : Option Pair) (q : Pair) → Contains (option_to_list o) q → o ≡ Some q
one_named None q there = absurd (contains_none q there)
one_named (Some x) q there =
    elim (contains_cases x [] q there) [ inl is ↦ ap (λ (y : Pair). Some y) (sym is) | inr none ↦ absurd (contains_none q none) ]

entry_names : (es : List StoredEntry) (q : Pair) → Contains (flat_map (λ e. option_to_list (pair_named e.body)) es) q → EntryNames es q
entry_names [] q there = absurd (contains_none q there)
entry_names (e ∷ es) q there =
    elim (Contains-append_cases (option_to_list (pair_named e.body)) (flat_map (λ (x : StoredEntry). option_to_list (pair_named x.body)) es) q there) [
      | inl here ↦ record { index = 0; entry = e; at = refl; names = one_named (pair_named e.body) q here }
      | inr later ↦ (
          let rest = entry_names es q later in
          record { index = suc rest.index; entry = rest.entry; at = rest.at; names = rest.names })
    ]

-- an entry of a part along pairs
record NamedOn (r : Reading) (ps : List Pair) (q : Pair) : Type 0 where
  pair : Pair
  there : Contains ps pair
  part : StoredPart
  read : r.part pair ≡ Some part
  entry : EntryNames part.entries q

named_later : (r : Reading) (p : Pair) (ps : List Pair) (q : Pair) → NamedOn r ps q → NamedOn r (p ∷ ps) q
named_later r p ps q h = record { pair = h.pair; there = contains_later p ps h.pair h.there; part = h.part; read = h.read; entry = h.entry }

named_first : (r : Reading) (p : Pair) (ps : List Pair) (q : Pair) (o : Option StoredPart) → r.part p ≡ o
    → (Contains (pairs_named (parts_held r ps)) q → NamedOn r ps q) → Contains (pairs_named (parts_held r (p ∷ ps))) q → NamedOn r (p ∷ ps) q
named_first r p ps q None read rest there =
    named_later r p ps q (rest (subst (λ (xs : List PairPart). Contains (pairs_named xs) q) (held_none r p ps read) there))
named_first r p ps q (Some s) read rest there =
    elim (Contains-append_cases (flat_map (λ (e : StoredEntry). option_to_list (pair_named e.body)) s.entries) (pairs_named (parts_held r ps)) q
    (subst (λ (xs : List PairPart). Contains (pairs_named xs) q) (held_some r p ps s read) there)) [
      | inl here ↦ record { pair = p; there = contains_first p ps; part = s; read = read; entry = entry_names s.entries q here }
      | inr later ↦ named_later r p ps q (rest later)
    ]

named_on : (r : Reading) (ps : List Pair) (q : Pair) → Contains (pairs_named (parts_held r ps)) q → NamedOn r ps q
named_on r [] q there = absurd (contains_none q there)
named_on r (p ∷ ps) q there = named_first r p ps q (r.part p) refl (named_on r ps q) there

target_is : (r : Reading) (body : StoredBody) (q : Pair) → pair_named body ≡ Some q → body_target (resolved_body r body) ≡ Some (unordered q)
target_is r (Inline bytes) q is = cc
target_is r (Chain head size) q is = cc
target_is r (Directory_at first second) q is = let same : (first, second) ≡ q = cc in ap (λ (x : Pair). Some (unordered x)) same

-- ---- directories that begin at a pair

counted_by : {X : Type 0} (test : X → Bool) (t : Bool) (x : X) (xs : List X) → test x ≡ t
    → (1 ≤ count_by test xs → (y : X) × Contains xs y × (test y ≡ true)) → 1 ≤ count_by test (x ∷ xs)
    → (y : X) × Contains (x ∷ xs) y × (test y ≡ true)
counted_by test true x xs is rest some = (x, contains_first x xs, is)
counted_by test false x xs is rest some =
    let sum = sum_by-cons (λ (y : _). cond {A = ℕ} (test y) 1 0) x xs in
    let none : cond {A = ℕ} (test x) 1 0 ≡ 0 = ap (λ (b : Bool). cond {A = ℕ} b 1 0) is in
    let more = rest (omega (arith, some, sum, none)) in
    (more.0, contains_later x xs more.0 more.1, more.2)

counted : {X : Type 0} (test : X → Bool) (xs : List X) → 1 ≤ count_by test xs → (y : X) × Contains xs y × (test y ≡ true)
counted test [] some = absurd (omega arith)
counted test (x ∷ xs) some = counted_by test (test x) x xs refl (counted test xs) some

first_in : (ds : List Directory) (d : Directory) → Contains ds d → Contains (thread ds) d.first
first_in [] d there = absurd (contains_none d there)
first_in (x ∷ ds) d there =
    elim (contains_cases x ds d there) [
      | inl is ↦ subst (λ (y : Directory). Contains (parts x ++ thread ds) y.first) (sym is) (contains_first x.first (x.more ++ thread ds))
      | inr later ↦ Contains-append_right (parts x) (thread ds) d.first (first_in ds d later)
    ]

-- ---- pairs with a block in common

same_here : (s t : Bool) (q x : Pair) → (if s then q else (q.1, q.0)) ≡ (if t then x else (x.1, x.0))
    → (1 ≤ pair_names q.0 x) × (1 ≤ pair_names q.1 x)
same_here true true q x is =
    let first : q.0 ≡ x.0 = ap (λ (y : Pair). y.0) is in
    let second : q.1 ≡ x.1 = ap (λ (y : Pair). y.1) is in
    (grind (arith, nat_tests), grind (arith, nat_tests))
same_here true false q x is =
    let first : q.0 ≡ x.1 = ap (λ (y : Pair). y.0) is in
    let second : q.1 ≡ x.0 = ap (λ (y : Pair). y.1) is in
    (grind (arith, nat_tests), grind (arith, nat_tests))
same_here false true q x is =
    let first : q.1 ≡ x.0 = ap (λ (y : Pair). y.0) is in
    let second : q.0 ≡ x.1 = ap (λ (y : Pair). y.1) is in
    (grind (arith, nat_tests), grind (arith, nat_tests))
same_here false false q x is =
    let first : q.1 ≡ x.1 = ap (λ (y : Pair). y.0) is in
    let second : q.0 ≡ x.0 = ap (λ (y : Pair). y.1) is in
    (grind (arith, nat_tests), grind (arith, nat_tests))

-- the same set names the same blocks
names_alike : (q x : Pair) → unordered q ≡ unordered x → (1 ≤ pair_names q.0 x) × (1 ≤ pair_names q.1 x)
names_alike q x is = same_here (nat_le q.0 q.1) (nat_le x.0 x.1) q x is

block_named : (q x : Pair) (b : ℕ) → has_block q b ≡ true → 1 ≤ pair_names q.0 x → 1 ≤ pair_names q.1 x → 1 ≤ pair_names b x
block_named q x b is first second =
    elim (or_cases (b == q.0) (b == q.1) is) [
      | inl at_first ↦ subst (λ (n : ℕ). 1 ≤ pair_names n x) (sym (eqb-true b q.0 at_first)) first
      | inr at_second ↦ subst (λ (n : ℕ). 1 ≤ pair_names n x) (sym (eqb-true b q.1 at_second)) second
    ]

names_first : (p : Pair) → 1 ≤ pair_names p.0 p
names_first p = grind (arith, nat_tests)

names_second : (p : Pair) → 1 ≤ pair_names p.1 p
names_second p = grind (arith, nat_tests)

-- of pairs that name a block once, one names it
one_by_block : (ps : List Pair) (b : ℕ) (x y : Pair) → Contains ps x → Contains ps y → pairs_name b ps ≤ 1 → 1 ≤ pair_names b x
    → 1 ≤ pair_names b y → x ≡ y
one_by_block [] b x y x_there y_there once x_names y_names = absurd (contains_none x x_there)
one_by_block (p ∷ ps) b x y x_there y_there once x_names y_names =
    let sum = sum_by-cons (pair_names b) p ps in
    elim (contains_cases p ps x x_there) [
      | inl x_is ↦ elim (contains_cases p ps y y_there) [
        | inl y_is ↦ x_is ∙ sym y_is
        | inr y_later ↦ (
            let here = ap (pair_names b) x_is in
            absurd (omega (arith, sum, here, once, x_names, y_names, element_le (pair_names b) ps y y_later)))
      ]
      | inr x_later ↦ elim (contains_cases p ps y y_there) [
        | inl y_is ↦ (
            let here = ap (pair_names b) y_is in
            absurd (omega (arith, sum, here, once, x_names, y_names, element_le (pair_names b) ps x x_later)))
        | inr y_later ↦ one_by_block ps b x y x_later y_later (omega (arith, sum, once)) x_names y_names
      ]
    ]

-- ---- what follows a pair of a thread is of the thread

follows_by : (step : Pair → Option Pair) (x : Pair) (xs : List Pair) (q : Pair) → Follow step (step x) xs → after step (step x) xs ≡ None
    → step x ≡ Some q → Contains (x ∷ xs) q
follows_by step x [] q follow ends is = cc
follows_by step x (y ∷ ys) q follow ends is =
    let same : y ≡ q = cc (follow.0, is) in
    subst (λ (z : Pair). Contains (x ∷ y ∷ ys) z) same (contains_later x (y ∷ ys) y (contains_first y ys))

follows_inside : (step : Pair → Option Pair) (from : Option Pair) (ps : List Pair) (p q : Pair) → Follow step from ps
    → after step from ps ≡ None → Contains ps p → step p ≡ Some q → Contains ps q
follows_inside step from [] p q follow ends there is = absurd (contains_none p there)
follows_inside step from (x ∷ xs) p q follow ends there is =
    elim (contains_cases x xs p there) [
      | inl same ↦ follows_by step x xs q follow.1 ends (ap step (sym same) ∙ is)
      | inr later ↦ contains_later x xs q (follows_inside step (step x) xs p q follow.1 ends later is)
    ]

-- ---- in a sound volume

stepped_same : (named : List Pair) (tail : Tail) → ((q : Pair) → next tail ≡ Some q → in_step_with named q ≡ q) → stepped_tail named tail ≡ tail
stepped_same named End all = refl
stepped_same named (Soft first second) all = ap soft_to (all (first, second) refl)
stepped_same named (Hard first second) all = refl

module _ (pairs : PairsAreOfParts) (r : Reading) (v : Volume) (sound : IsSound v) (h : Holds r v) where
  pub directories_are : v.directories ≡ directories_at r h.pairs
  directories_are = ap (λ (x : Volume). x.directories) h.is

  -- the pairs that entries along the thread name
  abbrev pub named_along : List Pair
  named_along = pairs_named (parts_held r h.pairs)

  stored_named : (q : Pair) (n : NamedOn r h.pairs q) → StoredOn r n.entry.entry
  stored_named q n = record {
    front = h.pairs;
    is_front = h.is_thread.front;
    pair = n.pair;
    there = n.there;
    part = n.part;
    read = n.read;
    index = n.entry.index;
    member = n.entry.at;
  }

  no_superblock : (q : Pair) (e : StoredEntry) → e ≡ superblock_entry h.bytes h.attributes → pair_named e.body ≡ Some q → ⊥
  no_superblock q e is names =
      let none : pair_named e.body ≡ None = ap (λ (x : StoredEntry). pair_named x.body) is in absurd (cc (none, names))

  is_named : (q : Pair) → NamedOn r h.pairs q → 1 ≤ named (unordered q) v
  is_named q n =
      elim (standing r v h n.entry.entry (stored_named q n)) [
        | First at first is ↦ absurd (no_superblock q n.entry.entry is n.entry.names)
        | Later resolved ↦ (
            let among = stands r h.pairs n.entry.entry (stored_named q n) h.is_thread resolved.0 in
            names_some (unordered q) v among.directory (stood_for r n.entry.entry)
            (subst (λ (ds : List Directory). Contains ds among.directory) (sym directories_are) among.there) among.member
            (target_is r n.entry.entry.body q n.entry.names))
      ]

  -- a pair of the thread with the same blocks
  record IsOnThread (q : Pair) : Type 0 where
    pair : Pair
    there : Contains h.pairs pair
    same : unordered q ≡ unordered pair

  on_thread : (q : Pair) → Contains named_along q → IsOnThread q
  on_thread q there =
      let one = is_named q (named_on r h.pairs q there) in
      let d = counted (begins_at (unordered q)) v.directories (omega (arith, one, sound.names (unordered q))) in
      record {
        pair = d.0.first.pair;
        there = subst (λ (ps : List Pair). Contains ps d.0.first.pair) (sym (pairs r v h))
            (contains_mapped (λ (p : Part). p.pair) (thread v.directories) d.0.first (first_in v.directories d.0 d.1));
        same = same_pair-is (unordered q) (key d.0) d.2;
      }

  same_at : (p q : Pair) (b : ℕ) → Contains h.pairs p → 1 ≤ pair_names b p → has_block q b ≡ true → (on : IsOnThread q) → p ≡ on.pair
  same_at p q b there here is on =
      let names = names_alike q on.pair on.same in
      one_by_block h.pairs b p on.pair there on.there (h.is_thread.front.once b) here (block_named q on.pair b is names.0 names.1)

  step_to : (p q : Pair) (b : ℕ) → Contains h.pairs p → 1 ≤ pair_names b p → first_with named_along b ≡ Some q → stepped_to p (Some q) ≡ p
  step_to p q b there here at =
      let f = found (λ (x : Pair). has_block x b) named_along q at in
      let on = on_thread q f.0 in
      let blocks : unordered p ≡ unordered q = ap unordered (same_at p q b there here f.1 on) ∙ sym on.same in
      ap (λ (t : Bool). if t then p else q) (ap (same_pair (unordered p)) (sym blocks) ∙ same_pair-refl (unordered p))

  step_by : (p : Pair) (first second : Option Pair) → Contains h.pairs p → first_with named_along p.0 ≡ first
      → first_with named_along p.1 ≡ second → stepped_to p (option_or first second) ≡ p
  step_by p (Some q) second there at_first at_second = step_to p q p.0 there (names_first p) at_first
  step_by p None (Some q) there at_first at_second = step_to p q p.1 there (names_second p) at_second
  step_by p None None there at_first at_second = refl

  -- a pair of the thread is the one that is named
  pair_stays : (p : Pair) → Contains h.pairs p → in_step_with named_along p ≡ p
  pair_stays p there = step_by p (first_with named_along p.0) (first_with named_along p.1) there refl refl

  tail_stays : (p : Pair) (s : StoredPart) → Contains h.pairs p → r.part p ≡ Some s → stepped_tail named_along s.tail ≡ s.tail
  tail_stays p s there read = stepped_same named_along s.tail
      (λ q is. pair_stays q (follows_inside (next_pair r) (Some root) h.pairs p q h.is_thread.front.follow h.is_thread.ends there
      (ap tail_of read ∙ is)))

  -- and so each part of the thread is in step
  pub part_in_step : (p : Pair) (o : Option StoredPart) → Contains h.pairs p → r.part p ≡ o → option_map (stepped_part named_along) o ≡ o
  part_in_step p None there read = refl
  part_in_step p (Some s) there read =
      ap (λ (t : Tail). Some (record { entries = s.entries; tail = t; delta = s.delta })) (tail_stays p s there read)
