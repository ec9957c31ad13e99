-- What stays of parts of which those leave that are empty after a hard tail.
use Rattle.std.proofs.Common.{◌≡◌, inl, inr, ℕ, suc, ◌-◌, ◌≤◌, ◌==◌, Bool, true, false, List, [], ◌∷◌, ◌++◌, length, map, Some, None}
use Rattle.std.proofs.Common.{refl, ap, sym, ◌∙◌, subst, arith}
use Rattle.std.specs.Prelude.{◌&&◌, Contains, if◌then◌else◌, replicate, slice_get, sum_by}
use Rattle.std.proofs.lemmas.Bool.{eq-eqb, eqb-true}
use Rattle.std.proofs.lemmas.Bool.Decides.{nat_tests}
use Rattle.std.proofs.lemmas.List.Sums.{sum_by-cons}
use Rattle.std.proofs.lemmas.Option.{same_Some}
use Rattle.lfs_meta.specs.declared.tail.Tail.{Tail}
use Rattle.lfs_meta.specs.Body.{Pair}
use Rattle.lfs_meta.specs.Entry.{StoredEntry}
use Rattle.lfs_fs.specs.Front.{pair_names}
use Rattle.lfs_fs.specs.Gathering.{PairPart, delta_from}
use Rattle.lfs_fs.specs.Thread.{is_hard}
use Rattle.lfs_fs.proofs.ContainsLemmas.{contains_cases, contains_first, contains_later, contains_none}
use Rattle.lfs_settle.specs.Laws.{AreLinked, first_pair}
use Rattle.lfs_settle.specs.Settled.{ending, without_share}
use Rattle.lfs_settle.proofs.PartLists.{contains_of}
use Rattle.lfs_settle.proofs.SettledThread.{linked_same, shares_none}
use Rattle.lfs_adopt.specs.Laws.{HaveEntries, TidiedAreLinked, TidiedHaveEntries, TidiedHaveNoState, TidiedNameNoMore, TidiedStay}
use Rattle.lfs_adopt.specs.Tidied.{cleared_unless, is_empty, tidied_parts, with_tail_of, without_emptied}
use Rattle.lfs_adopt.specs.Tidying.{ends_hard, put_next}

-- ---- one step

-- the part after this one leaves, or stays
abbrev pub filled_by : Bool → PairPart → PairPart → List PairPart → List PairPart
filled_by leaves p q qs = if leaves then without_emptied (with_tail_of q p) qs else p ∷ without_emptied q qs

-- parts that begin with this one, but for its tail
pub record BeginsAs (p : PairPart) (ps : List PairPart) : Type 0 where
  pub tail : Tail
  pub more : List PairPart
  pub is : ps ≡ (p.0, record { entries = p.1.entries; tail = tail; delta = p.1.delta }) ∷ more

begins_by : (leaves : Bool) (p q : PairPart) (qs : List PairPart) → BeginsAs (with_tail_of q p) (without_emptied (with_tail_of q p) qs)
    → BeginsAs p (filled_by leaves p q qs)
begins_by true p q qs rest = record { tail = rest.tail; more = rest.more; is = rest.is }
begins_by false p q qs rest = record { tail = p.1.tail; more = without_emptied q qs; is = refl }

pub begins : (p : PairPart) (qs : List PairPart) → BeginsAs p (without_emptied p qs)
begins p [] = record { tail = p.1.tail; more = []; is = refl }
begins p (q ∷ qs) = begins_by (is_hard p.1.tail && is_empty q.1.entries) p q qs (begins (with_tail_of q p) qs)

first_filled : (p : PairPart) (qs : List PairPart) → first_pair (without_emptied p qs) ≡ Some p.0
first_filled p qs = ap first_pair (begins p qs).is

-- ---- one thread

linked_by : (leaves : Bool) (p q : PairPart) (qs : List PairPart) → AreLinked (p ∷ q ∷ qs)
    → AreLinked (without_emptied (with_tail_of q p) qs) → AreLinked (without_emptied q qs) → AreLinked (filled_by leaves p q qs)
linked_by true p q qs linked gone stays = gone
linked_by false p q qs linked gone stays = (linked.0 ∙ sym (first_filled q qs), stays)

filled_linked : (p : PairPart) (qs : List PairPart) → AreLinked (p ∷ qs) → AreLinked (without_emptied p qs)
filled_linked p [] linked = linked
filled_linked p (q ∷ qs) linked =
    linked_by (is_hard p.1.tail && is_empty q.1.entries) p q qs linked (filled_linked (with_tail_of q p) qs linked.1)
    (filled_linked q qs linked.1)

-- a part that keeps its share, or has none
abbrev pub share_by : Bool → PairPart → PairPart
share_by keeps p =
    (p.0, record { entries = p.1.entries; tail = p.1.tail; delta = if keeps then p.1.delta else replicate 12 0 })

-- whether all parts stay
abbrev pub all_stay : PairPart → List PairPart → Bool
all_stay p qs = length (without_emptied p qs) == length (p ∷ qs)

shares_kept : (ps : List PairPart) → map (share_by true) ps ≡ ps
shares_kept [] = refl
shares_kept (p ∷ ps) = ap (λ (xs : List PairPart). p ∷ xs) (shares_kept ps)

cleared_is : (keep : Bool) (ps : List PairPart) → (if keep then ps else map without_share ps) ≡ map (share_by keep) ps
cleared_is true ps = sym (shares_kept ps)
cleared_is false ps = refl

pub tidied_is_filled : (p : PairPart) (qs : List PairPart) → tidied_parts (p ∷ qs) ≡ map (share_by (all_stay p qs)) (without_emptied p qs)
tidied_is_filled p qs = cleared_is (all_stay p qs) (without_emptied p qs)

pub tidied_linked : TidiedAreLinked
tidied_linked [] linked = tt
tidied_linked (p ∷ ps) linked =
    subst AreLinked (sym (tidied_is_filled p ps))
    (linked_same (share_by (all_stay p ps)) (λ q. refl) (λ q. refl) (without_emptied p ps) (filled_linked p ps linked))

pub tidied_first : (ps : List PairPart) → first_pair (tidied_parts ps) ≡ first_pair ps
tidied_first [] = refl
tidied_first (p ∷ ps) =
    ap first_pair (tidied_is_filled p ps)
    ∙ ap (λ (xs : List PairPart). first_pair (map (share_by (all_stay p ps)) xs)) (begins p ps).is

-- ---- sums over parts

-- over what parts are mapped to
pub sum_mapped : {X Y : Type 0} (f : Y → ℕ) (g : X → Y) (xs : List X) → sum_by f (map g xs) ≡ sum_by (λ x. f (g x)) xs
sum_mapped f g [] = refl
sum_mapped {X} f g (x ∷ xs) =
    omega (arith, sum_by-cons f (g x) (map g xs), sum_by-cons (λ (y : X). f (g y)) x xs, sum_mapped f g xs)

-- a number of a part that its tail and its share don't change
pub record OfPairAndEntries (f : PairPart → ℕ) : Type 0 where
  pub same : (p : PairPart) (tail : Tail) (delta : List ℕ) → f (p.0, record { entries = p.1.entries; tail = tail; delta = delta }) ≡ f p

module _ (f : PairPart → ℕ) (of : OfPairAndEntries f) where
  sum_by_step : (leaves : Bool) (p q : PairPart) (qs : List PairPart)
      → sum_by f (without_emptied (with_tail_of q p) qs) ≤ sum_by f (with_tail_of q p ∷ qs)
      → sum_by f (without_emptied q qs) ≤ sum_by f (q ∷ qs) → sum_by f (filled_by leaves p q qs) ≤ sum_by f (p ∷ q ∷ qs)
  sum_by_step true p q qs gone stays =
      omega (
        arith,
        gone,
        of.same p q.1.tail p.1.delta,
        sum_by-cons f (with_tail_of q p) qs,
        sum_by-cons f p (q ∷ qs),
        sum_by-cons f q qs,
      )
  sum_by_step false p q qs gone stays =
      omega (arith, stays, sum_by-cons f p (without_emptied q qs), sum_by-cons f p (q ∷ qs))

  sum_filled : (p : PairPart) (qs : List PairPart) → sum_by f (without_emptied p qs) ≤ sum_by f (p ∷ qs)
  sum_filled p [] = omega arith
  sum_filled p (q ∷ qs) =
      sum_by_step (is_hard p.1.tail && is_empty q.1.entries) p q qs (sum_filled (with_tail_of q p) qs) (sum_filled q qs)

  sum_shared : (keep : Bool) (ps : List PairPart) → sum_by f (map (share_by keep) ps) ≡ sum_by f ps
  sum_shared keep [] = refl
  sum_shared keep (p ∷ ps) =
      omega (
        arith,
        of.same p p.1.tail (share_by keep p).1.delta,
        sum_by-cons f (share_by keep p) (map (share_by keep) ps),
        sum_by-cons f p ps,
        sum_shared keep ps,
      )

  pub sum_tidied : (ps : List PairPart) → sum_by f (tidied_parts ps) ≤ sum_by f ps
  sum_tidied [] = omega arith
  sum_tidied (p ∷ ps) =
      omega (
        arith,
        ap (sum_by f) (tidied_is_filled p ps),
        sum_shared (all_stay p ps) (without_emptied p ps),
        sum_filled p ps,
      )

pub tidied_names : TidiedNameNoMore
tidied_names ps b =
    omega (
      arith,
      sum_mapped (pair_names b) (λ (p : PairPart). p.0) ps,
      sum_mapped (pair_names b) (λ (p : PairPart). p.0) (tidied_parts ps),
      sum_tidied (λ (p : PairPart). pair_names b p.0) (record { same = λ p tail delta. refl }) ps,
    )

-- ---- entries

have_by : (leaves : Bool) (p q : PairPart) (qs : List PairPart) → (is_hard p.1.tail && is_empty q.1.entries) ≡ leaves
    → HaveEntries (without_emptied (with_tail_of q p) qs) → HaveEntries (without_emptied q qs) → HaveEntries (filled_by leaves p q qs)
have_by true p q qs is gone stays = gone
have_by false p q qs is gone stays =
    let begun = begins q qs in
    let rest : HaveEntries ((q.0, record { entries = q.1.entries; tail = begun.tail; delta = q.1.delta }) ∷ begun.more) =
    subst HaveEntries begun.is stays in
    subst (λ (xs : List PairPart). HaveEntries (p ∷ xs)) (sym begun.is) (is, rest)

filled_have : (p : PairPart) (qs : List PairPart) → HaveEntries (without_emptied p qs)
filled_have p [] = tt
filled_have p (q ∷ qs) =
    have_by (is_hard p.1.tail && is_empty q.1.entries) p q qs refl (filled_have (with_tail_of q p) qs) (filled_have q qs)

have_shared : (keep : Bool) (ps : List PairPart) → HaveEntries ps → HaveEntries (map (share_by keep) ps)
have_shared keep [] have = tt
have_shared keep (p ∷ []) have = tt
have_shared keep (p ∷ q ∷ ps) have = (have.0, have_shared keep (q ∷ ps) have.1)

pub tidied_have_entries : TidiedHaveEntries
tidied_have_entries [] = tt
tidied_have_entries (p ∷ ps) =
    subst HaveEntries (sym (tidied_is_filled p ps)) (have_shared (all_stay p ps) (without_emptied p ps) (filled_have p ps))

-- ---- what stays

filled_stay : (p : PairPart) (qs : List PairPart) → HaveEntries (p ∷ qs) → without_emptied p qs ≡ p ∷ qs
filled_stay p [] have = refl
filled_stay p (q ∷ qs) have =
    ap (λ (b : Bool). filled_by b p q qs) have.0 ∙ ap (λ (xs : List PairPart). p ∷ xs) (filled_stay q qs have.1)

pub tidied_stays : TidiedStay
tidied_stays [] have = refl
tidied_stays (p ∷ ps) have =
    ap (cleared_unless (length (p ∷ ps))) (filled_stay p ps have)
    ∙ ap (λ (same : Bool). if same then p ∷ ps else map without_share (p ∷ ps)) (eq-eqb (length (p ∷ ps)) (length (p ∷ ps)) refl)

-- ---- the state

most_by : (leaves : Bool) (p q : PairPart) (qs : List PairPart) → length (without_emptied (with_tail_of q p) qs) ≤ length (p ∷ qs)
    → length (without_emptied q qs) ≤ length (q ∷ qs) → length (filled_by leaves p q qs) ≤ length (p ∷ q ∷ qs)
most_by true p q qs gone stays = omega (arith, gone)
most_by false p q qs gone stays = omega (arith, stays)

most_filled : (p : PairPart) (qs : List PairPart) → length (without_emptied p qs) ≤ length (p ∷ qs)
most_filled p [] = omega arith
most_filled p (q ∷ qs) =
    most_by (is_hard p.1.tail && is_empty q.1.entries) p q qs (most_filled (with_tail_of q p) qs) (most_filled q qs)

as_many_by : (leaves : Bool) (p q : PairPart) (qs : List PairPart) → length (filled_by leaves p q qs) ≡ length (p ∷ q ∷ qs)
    → (length (without_emptied q qs) ≡ length (q ∷ qs) → without_emptied q qs ≡ q ∷ qs) → filled_by leaves p q qs ≡ p ∷ q ∷ qs
as_many_by true p q qs many rest = absurd (omega (arith, many, most_filled (with_tail_of q p) qs))
as_many_by false p q qs many rest = ap (λ (xs : List PairPart). p ∷ xs) (rest (omega (arith, many)))

-- as many parts are the same ones
as_many : (p : PairPart) (qs : List PairPart) → length (without_emptied p qs) ≡ length (p ∷ qs) → without_emptied p qs ≡ p ∷ qs
as_many p [] many = refl
as_many p (q ∷ qs) many = as_many_by (is_hard p.1.tail && is_empty q.1.entries) p q qs many (as_many q qs)

state_by : (keep : Bool) (p : PairPart) (qs : List PairPart) → all_stay p qs ≡ keep → delta_from (p ∷ qs) ≡ 0
    → delta_from (if keep then without_emptied p qs else map without_share (without_emptied p qs)) ≡ 0
state_by true p qs is none = ap delta_from (as_many p qs (eqb-true (length (without_emptied p qs)) (length (p ∷ qs)) is)) ∙ none
state_by false p qs is none = shares_none (without_emptied p qs)

pub tidied_no_state : TidiedHaveNoState
tidied_no_state [] none = none
tidied_no_state (p ∷ ps) none = state_by (all_stay p ps) p ps refl none

-- ---- where a tidied part comes from

-- it is one of these, but for its tail and its share
pub record IsOf (ts : List PairPart) (q : PairPart) : Type 0 where
  pub part : PairPart
  pub there : Contains ts part
  pub pair : part.0 ≡ q.0
  pub entries : part.1.entries ≡ q.1.entries

of_by : (leaves : Bool) (p q : PairPart) (qs : List PairPart) (x : PairPart)
    → (Contains (without_emptied (with_tail_of q p) qs) x → IsOf (with_tail_of q p ∷ qs) x)
    → (Contains (without_emptied q qs) x → IsOf (q ∷ qs) x) → Contains (filled_by leaves p q qs) x → IsOf (p ∷ q ∷ qs) x
of_by true p q qs x gone stays there =
    let of = gone there in
    elim (contains_cases (with_tail_of q p) qs of.part of.there) [
      | inl is ↦ record {
        part = p;
        there = contains_first p (q ∷ qs);
        pair = sym (ap (λ (y : PairPart). y.0) is) ∙ of.pair;
        entries = sym (ap (λ (y : PairPart). y.1.entries) is) ∙ of.entries;
      }
      | inr later ↦ record {
        part = of.part;
        there = contains_later p (q ∷ qs) of.part (contains_later q qs of.part later);
        pair = of.pair;
        entries = of.entries;
      }
    ]
of_by false p q qs x gone stays there =
    elim (contains_cases p (without_emptied q qs) x there) [
      | inl is ↦ record {
        part = p;
        there = contains_first p (q ∷ qs);
        pair = sym (ap (λ (y : PairPart). y.0) is);
        entries = sym (ap (λ (y : PairPart). y.1.entries) is);
      }
      | inr later ↦ record {
        part = (stays later).part;
        there = contains_later p (q ∷ qs) (stays later).part (stays later).there;
        pair = (stays later).pair;
        entries = (stays later).entries;
      }
    ]

filled_of : (p : PairPart) (qs : List PairPart) (x : PairPart) → Contains (without_emptied p qs) x → IsOf (p ∷ qs) x
filled_of p [] x there = record { part = x; there = there; pair = refl; entries = refl }
filled_of p (q ∷ qs) x there =
    of_by (is_hard p.1.tail && is_empty q.1.entries) p q qs x (filled_of (with_tail_of q p) qs x) (filled_of q qs x) there

pub tidied_of : (ts : List PairPart) (q : PairPart) → Contains (tidied_parts ts) q → IsOf ts q
tidied_of [] q there = absurd (contains_none q there)
tidied_of (p ∷ ps) q there =
    let before = contains_of (share_by (all_stay p ps)) (without_emptied p ps) q
    (subst (λ (xs : List PairPart). Contains xs q) (tidied_is_filled p ps) there) in
    let of = filled_of p ps before.0 before.1 in
    record {
      part = of.part;
      there = of.there;
      pair = of.pair ∙ ap (λ (y : PairPart). y.0) before.2;
      entries = of.entries ∙ ap (λ (y : PairPart). y.1.entries) before.2;
    }

-- the first part, and what stays of it
pub record IsFirst (pair : Pair) (ts : List PairPart) : Type 0 where
  pub part : PairPart
  pub there : Contains ts part
  pub at : part.0 ≡ pair
  pub tail : Tail
  pub delta : List ℕ
  pub stays : Contains (tidied_parts ts) (part.0, record { entries = part.1.entries; tail = tail; delta = delta })

pub first_stays : (pair : Pair) (ts : List PairPart) → first_pair ts ≡ Some pair → IsFirst pair ts
first_stays pair [] is = cc
first_stays pair (p ∷ ps) is =
    let begun = begins p ps in
    let share : List ℕ = (share_by (all_stay p ps) p).1.delta in
    let now : PairPart = (p.0, record { entries = p.1.entries; tail = begun.tail; delta = share }) in
    record {
      part = p;
      there = contains_first p ps;
      at = same_Some p.0 pair is;
      tail = begun.tail;
      delta = share;
      stays = subst (λ (xs : List PairPart). Contains xs now) (sym (tidied_is_filled p ps))
          (subst (λ (xs : List PairPart). Contains (map (share_by (all_stay p ps)) xs) now) (sym begun.is)
          (contains_first now (map (share_by (all_stay p ps)) begun.more)));
    }

-- ---- one part after another

-- what stays of parts that come after others that stay
abbrev pub left_of : List PairPart → List PairPart → List PairPart
left_of [] [] = []
left_of [] (q ∷ qs) = without_emptied q qs
left_of (p ∷ []) rest = without_emptied p rest
left_of (p ∷ q ∷ ps) rest = p ∷ left_of (q ∷ ps) rest

left_ending : (p : PairPart) (tail : Tail) (q : PairPart) (ps rest : List PairPart)
    → left_of (p ∷ ending tail (q ∷ ps)) rest ≡ p ∷ left_of (ending tail (q ∷ ps)) rest
left_ending p tail q [] rest = refl
left_ending p tail q (x ∷ ps) rest = refl

put_later : (leaves : Bool) (p r : PairPart) (ps : List PairPart) (q : PairPart) (rest : List PairPart)
    → left_of (if leaves then ending q.1.tail (p ∷ r ∷ ps) else (p ∷ r ∷ ps) ++ q ∷ []) rest
    ≡ p ∷ left_of (if leaves then ending q.1.tail (r ∷ ps) else (r ∷ ps) ++ q ∷ []) rest
put_later true p r ps q rest = left_ending p q.1.tail r ps rest
put_later false p r ps q rest = refl

put_second : (leaves : Bool) (p q : PairPart) (rest : List PairPart)
    → left_of (if leaves then ending q.1.tail (p ∷ []) else (p ∷ []) ++ q ∷ []) rest ≡ filled_by leaves p q rest
put_second true p q rest = refl
put_second false p q rest = refl

-- one more
put_more : (kept : List PairPart) (q : PairPart) (rest : List PairPart) → left_of (put_next kept q) rest ≡ left_of kept (q ∷ rest)
put_more [] q rest = refl
put_more (p ∷ []) q rest = put_second (is_hard p.1.tail && is_empty q.1.entries) p q rest
put_more (p ∷ r ∷ ps) q rest =
    put_later (ends_hard (r ∷ ps) && is_empty q.1.entries) p r ps q rest
    ∙ ap (λ (xs : List PairPart). p ∷ xs) (put_more (r ∷ ps) q rest)

pub next_put : (all kept now : List PairPart) (q : PairPart) (rest : List PairPart) → now ≡ put_next kept q
    → all ≡ left_of kept (q ∷ rest) → all ≡ left_of now rest
next_put all kept now q rest put is = is ∙ sym (put_more kept q rest) ∙ ap (λ (xs : List PairPart). left_of xs rest) (sym put)

none_left : (kept : List PairPart) → left_of kept [] ≡ kept
none_left [] = refl
none_left (p ∷ []) = refl
none_left (p ∷ q ∷ ps) = ap (λ (xs : List PairPart). p ∷ xs) (none_left (q ∷ ps))

-- all of them
cleared_all : (ps : List PairPart) → cleared_unless (length ps) (left_of [] ps) ≡ tidied_parts ps
cleared_all [] = refl
cleared_all (p ∷ ps) = refl

pub all_put : (ps kept now rest : List PairPart) (count : ℕ) → length rest ≡ 0 → count ≡ length ps → now ≡ cleared_unless count kept
    → left_of [] ps ≡ left_of kept rest → now ≡ tidied_parts ps
all_put ps kept now [] count none many cleared is =
    cleared
    ∙ ap (λ (n : ℕ). cleared_unless n kept) many
    ∙ ap (cleared_unless (length ps)) (sym (none_left kept) ∙ sym is)
    ∙ cleared_all ps
all_put ps kept now (q ∷ rest) count none many cleared is = absurd (omega (arith, none))

-- ---- the tests

pub empty_is : (es : List StoredEntry) → (length es == 0) ≡ is_empty es
empty_is [] = refl
empty_is (e ∷ es) = grind (arith, nat_tests)

pub none_of_empty : (es : List StoredEntry) → is_empty es ≡ true → es ≡ []
none_of_empty [] is = refl
none_of_empty (e ∷ es) is = cc

pub last_is_hard : (ps : List PairPart) (p : PairPart) → slice_get ps (length ps - 1) ≡ Some p → is_hard p.1.tail ≡ ends_hard ps
last_is_hard [] p is = cc
last_is_hard (q ∷ []) p is = let same : q ≡ p = cc in ap (λ (x : PairPart). is_hard x.1.tail) (sym same)
last_is_hard (q ∷ r ∷ ps) p is =
    let last : length (q ∷ r ∷ ps) - 1 ≡ suc (length (r ∷ ps) - 1) = omega arith in
    last_is_hard (r ∷ ps) p (subst (λ (n : ℕ). slice_get (q ∷ r ∷ ps) n ≡ Some p) last is)

pub none_is_hard : (ps : List PairPart) → slice_get ps (length ps - 1) ≡ None → false ≡ ends_hard ps
none_is_hard [] is = refl
none_is_hard (q ∷ []) is = cc
none_is_hard (q ∷ r ∷ ps) is =
    let last : length (q ∷ r ∷ ps) - 1 ≡ suc (length (r ∷ ps) - 1) = omega arith in
    none_is_hard (r ∷ ps) (subst (λ (n : ℕ). slice_get (q ∷ r ∷ ps) n ≡ None) last is)
