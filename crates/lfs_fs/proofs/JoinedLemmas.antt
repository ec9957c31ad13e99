-- The parts of a thread, each kept as soon as it is read.
use Rattle.std.proofs.Common.{◌≡◌, ℕ, ◌+◌, ◌≤◌, ◌<◌, suc, Bool, true, false, List, [], ◌∷◌, ◌++◌, length, Option, Some, None, refl, ap, sym, ◌∙◌, subst, arith}
use Rattle.std.proofs.Common.{append-nil, append_assoc}
use Rattle.std.specs.Prelude.{All, IsSome, bit_xor, cond, if◌then◌else◌, not}
use Rattle.std.specs.Int.Bits.{xor_assoc}
use Rattle.std.proofs.lemmas.Nat.{xor_comm}
use Rattle.std.proofs.lemmas.List.{map-append}
use Rattle.std.proofs.lemmas.List.Sums.{sum_by-cons}
use Rattle.std.proofs.lemmas.List.Elements.{All-nil, All-cons, All-map, All-push, All-weaker}
use Rattle.lfs_block.specs.Disk.{Disk}
use Rattle.lfs_block.specs.declared.mount_fault.MountFault.{MountFault}
use Rattle.lfs_meta.specs.Body.{Pair}
use Rattle.lfs_meta.specs.Entry.{StoredEntry}
use Rattle.lfs_meta.specs.Cause.{ReadCause}
use Rattle.lfs_fs.specs.declared.joined.Joined.{Joined}
use Rattle.lfs_fs.specs.declared.limits.Limits.{Limits}
use Rattle.lfs_fs.specs.Cause.{HasCause}
use Rattle.lfs_fs.specs.Front.{IsFront, next_after, pairs_name}
use Rattle.lfs_fs.specs.Gathering.{EntriesCause, Joins, KeepsNext, PairPart, delta_from, part_entries, parts_use}
use Rattle.lfs_fs.specs.Judged.{SaysLimits, with_entries}
use Rattle.lfs_fs.specs.Pair.{root}
use Rattle.lfs_fs.specs.Reading.{Reading, reading_of}
use Rattle.lfs_fs.specs.Sound.{Rise}
use Rattle.lfs_fs.specs.State.{little_endian}
use Rattle.lfs_fs.specs.Thread.{is_hard, next}
use Rattle.lfs_fs.specs.ThreadRead.{IsPartRead, IsRootRead, IsRootTaken, IsThreadKept, pairs_of}
use Rattle.lfs_fs.specs.Used.{AddsBlocks, AreTaken, Marks, marked, unmarked}
use Rattle.lfs_fs.specs.Uses.{times}
use Rattle.lfs_fs.proofs.GatherCauseLemmas.{parts_refuse}
use Rattle.lfs_fs.proofs.GatheredLemmas.{RootRead, same_links, uses_are}
use Rattle.lfs_fs.proofs.PartsLemmas.{IsCompletePart, PartsTo, all_gathered, ends_here, goes_on, none_gathered, part_refuses}
use Rattle.lfs_fs.proofs.ThreadReadLemmas.{front_more, next_more, next_refused, no_header, pairs_more, root_front, unread_pair}

-- ---- parts alone

-- how often pairs name each block
abbrev pub by_pairs : List Pair → ℕ → ℕ
by_pairs ps = λ b. pairs_name b ps

-- the parts so far are kept, whatever comes behind them
abbrev pub AreKept : Reading → Limits → (ℕ → ℕ) → List PairPart → List Bool → Joined → Type 0
AreKept r limits others ps used j = (more : List PairPart) → All IsCompletePart more
    → PartsTo r limits others (ps ++ more) used j.directories.items j.parts.items more

-- more is marked beside them
others_more : (r : Reading) (limits : Limits) (others these : ℕ → ℕ) (ps : List PairPart) (used new : List Bool) (j : Joined)
    (blocks : List ℕ) → AreKept r limits others ps used j → AddsBlocks used new blocks → ((b : ℕ) → these b ≡ others b + times b blocks)
    → AreKept r limits these ps new j
others_more r limits others these ps used new j blocks kept adds are more complete =
    let h = kept more complete in
    record {
      complete = h.complete;
      rise = h.rise;
      rises = h.rises;
      is = h.is;
      len = adds.len ∙ h.len;
      marks = λ b. let was = h.marks b in let now = adds.marks b in let same = are b in omega arith;
      faults = h.faults;
      proper = h.proper;
    }

kept_by : (r : Reading) (limits : Limits) (others : ℕ → ℕ) (ps : List PairPart) (used new : List Bool) (j k : Joined) (q : PairPart)
    (hard : Bool) → is_hard q.1.tail ≡ hard → AreKept r limits others ps used j → IsCompletePart q
    → (h : KeepsNext r limits used new q j k) → Joins hard h.kept j k → (more : List PairPart) → All IsCompletePart more
    → PartsTo r limits others (ps ++ q ∷ more) new k.directories.items k.parts.items more
kept_by r limits others ps used new j k q true hard kept complete h joins more all =
    let before = kept (q ∷ more) (All-cons IsCompletePart q more complete all) in
    let after = goes_on r limits others (ps ++ q ∷ more) used new j.directories.items j.parts.items q more h.kept before h.keeps hard in
    rw (joins.0, joins.1) after
kept_by r limits others ps used new j k q false hard kept complete h joins more all =
    let before = kept (q ∷ more) (All-cons IsCompletePart q more complete all) in
    let after = ends_here r limits others (ps ++ q ∷ more) used new j.directories.items j.parts.items q more h.kept before h.keeps hard in
    rw (joins.0, joins.1) after

-- one part more
kept_more : (r : Reading) (limits : Limits) (others : ℕ → ℕ) (ps : List PairPart) (used new : List Bool) (j k : Joined) (q : PairPart)
    → AreKept r limits others ps used j → IsCompletePart q → KeepsNext r limits used new q j k → AreKept r limits others (ps ++ q ∷ []) new k
kept_more r limits others ps used new j k q kept complete h more all =
    subst (λ (qs : List PairPart). PartsTo r limits others qs new k.directories.items k.parts.items more)
    (sym (append_assoc ps (q ∷ []) more)) (kept_by r limits others ps used new j k q (is_hard q.1.tail) refl kept complete h h.joins more all)

-- none so far
none_kept : (r : Reading) (limits : Limits) (others : ℕ → ℕ) (used : List Bool) (j : Joined) → length used ≡ r.count
    → Marks used others → j.directories.items ≡ [] → j.parts.items ≡ [] → AreKept r limits others [] used j
none_kept r limits others used j len marks none_ended none_joined more complete =
    rw (none_ended, none_joined) (none_gathered r limits others more used complete len marks)

-- what is marked so far
pub kept_marks : (r : Reading) (limits : Limits) (others : ℕ → ℕ) (ps : List PairPart) (used : List Bool) (j : Joined)
    → AreKept r limits others ps used j → (length used ≡ r.count) × Marks used (λ b. others b + parts_use r b ps)
kept_marks r limits others ps used j kept =
    let h = subst (λ (qs : List PairPart). PartsTo r limits others qs used j.directories.items j.parts.items []) (append-nil ps)
    (kept [] (All-nil IsCompletePart)) in
    (h.len, λ b. let is = h.marks b in omega arith)

-- ---- parts of the thread

-- the parts from the root's on are read and kept, and the pair behind them
pub record GathersTo (r : Reading) (limits : Limits) (e : StoredEntry) (p : PairPart) (rest : List PairPart) (behind : Option Pair)
    (used : List Bool) (j : Joined) : Type 0 where
  pub root : RootRead r p e p.1.entries rest
  pub next_is : next_after r (p.0 ∷ pairs_of rest) ≡ behind
  pub kept : AreKept r limits (by_pairs (p.0 ∷ pairs_of rest)) (p ∷ rest) used j
  pub state : j.state ≡ delta_from (p ∷ rest)

-- ---- one part more

pairs_grow : (p : PairPart) (rest : List PairPart) (q : PairPart) → (p.0 ∷ pairs_of rest) ++ q.0 ∷ [] ≡ p.0 ∷ pairs_of (rest ++ q ∷ [])
pairs_grow p rest q = ap (λ (ps : List Pair). p.0 ∷ ps) (sym (map-append (λ (x : PairPart). x.0) rest (q ∷ [])))

delta_more : (ps : List PairPart) (q : PairPart) → delta_from (ps ++ q ∷ []) ≡ bit_xor (delta_from ps) (little_endian q.1.delta)
delta_more [] q = xor_comm (little_endian q.1.delta) 0
delta_more (p ∷ ps) q = ap (bit_xor (little_endian p.1.delta)) (delta_more ps q)
    ∙ sym (xor_assoc (little_endian p.1.delta) (delta_from ps) (little_endian q.1.delta))

module _ (r : Reading) (limits : Limits) (e : StoredEntry) (p : PairPart) (rest : List PairPart) (used : List Bool) (j : Joined) where
  -- the pair behind the parts so far, once it is marked
  front_with : (pair : Pair) (new : List Bool) → GathersTo r limits e p rest (Some pair) used j → AddsBlocks used new (pair.0 ∷ pair.1 ∷ [])
      → IsFront r ((p.0 ∷ pairs_of rest) ++ pair ∷ [])
  front_with pair new h adds =
      let marks = kept_marks r limits (by_pairs (p.0 ∷ pairs_of rest)) (p ∷ rest) used j h.kept in
      front_more r (p.0 ∷ pairs_of rest) pair used new h.root.front h.next_is marks.0
      (λ b. let is = marks.1 b in omega arith) adds

  root_with : (q : PairPart) (behind : Option Pair) → GathersTo r limits e p rest behind used j → IsPartRead r q
      → IsFront r ((p.0 ∷ pairs_of rest) ++ q.0 ∷ []) → RootRead r p e p.1.entries (rest ++ q ∷ [])
  root_with q behind h read front = record {
    at = h.root.at;
    part = h.root.part;
    later = All-push (IsPartRead r) rest q h.root.later read;
    front = subst (IsFront r) (pairs_grow p rest q) front;
  }

  mid_kept : (q : PairPart) (new : List Bool) (behind : Option Pair) → GathersTo r limits e p rest behind used j
      → AddsBlocks used new (q.0.0 ∷ q.0.1 ∷ []) → AreKept r limits (by_pairs (p.0 ∷ pairs_of (rest ++ q ∷ []))) (p ∷ rest) new j
  mid_kept q new behind h adds =
      others_more r limits (by_pairs (p.0 ∷ pairs_of rest)) (by_pairs (p.0 ∷ pairs_of (rest ++ q ∷ []))) (p ∷ rest) used new j
      (q.0.0 ∷ q.0.1 ∷ []) h.kept adds
      (λ b. ap (pairs_name b) (sym (pairs_grow p rest q)) ∙ pairs_more b (p.0 ∷ pairs_of rest) q.0)

  gathers_one : (q : PairPart) (mid new : List Bool) (k : Joined) → GathersTo r limits e p rest (Some q.0) used j
      → AddsBlocks used mid (q.0.0 ∷ q.0.1 ∷ []) → r.part q.0 ≡ Some q.1 → IsCompletePart q → KeepsNext r limits mid new q j k
      → GathersTo r limits e p (rest ++ q ∷ []) (next q.1.tail) new k
  gathers_one q mid new k h adds read complete keeps = record {
    root = root_with q (Some q.0) h (record { read = read; complete = complete }) (front_with q.0 mid h adds);
    next_is = ap (next_after r) (sym (pairs_grow p rest q)) ∙ next_more r (p.0 ∷ pairs_of rest) q.0 q read;
    kept = kept_more r limits (by_pairs (p.0 ∷ pairs_of (rest ++ q ∷ []))) (p ∷ rest) mid new j k q (mid_kept q mid (Some q.0) h adds) complete
        keeps;
    state = keeps.state ∙ ap (λ (n : ℕ). bit_xor n (little_endian q.1.delta)) h.state ∙ sym (delta_more (p ∷ rest) q);
  }

  pub gathers_more : (pair : Pair) (q : PairPart) (mid new : List Bool) (k : Joined) → GathersTo r limits e p rest (Some pair) used j
      → AddsBlocks used mid (pair.0 ∷ pair.1 ∷ []) → q.0 ≡ pair → r.part pair ≡ Some q.1 → IsCompletePart q
      → KeepsNext r limits mid new q j k → GathersTo r limits e p (rest ++ q ∷ []) (next q.1.tail) new k
  gathers_more pair q mid new k h adds at read complete keeps =
      gathers_one q mid new k (subst (λ (x : Pair). GathersTo r limits e p rest (Some x) used j) (sym at) h)
      (subst (λ (x : Pair). AddsBlocks used mid (x.0 ∷ x.1 ∷ [])) (sym at) adds) (ap r.part at ∙ read) complete keeps

  -- ---- the end

  pub all_kept : GathersTo r limits e p rest None used j → IsThreadKept r limits p used j
  all_kept h = record {
    rest = rest;
    later = h.root.later;
    is_thread = record {
      front = h.root.front;
      parts = All-cons (λ (x : Pair). IsSome (r.part x)) p.0 (pairs_of rest) (rw (ap r.part h.root.at ∙ h.root.part) refl)
          (All-map (λ (x : Pair). IsSome (r.part x)) (λ (q : PairPart). q.0) rest
          (All-weaker (IsPartRead r) (λ (q : PairPart). IsSome (r.part q.0)) (λ q is. rw is.read refl) rest h.root.later));
      ends = h.next_is;
    };
    kept = all_gathered r limits (by_pairs (p.0 ∷ pairs_of rest)) (p ∷ rest) used j.directories.items j.parts.items [] refl
        (subst (λ (qs : List PairPart). PartsTo r limits (by_pairs (p.0 ∷ pairs_of rest)) qs used j.directories.items j.parts.items [])
        (append-nil (p ∷ rest)) (h.kept [] (All-nil IsCompletePart)));
    state = h.state;
  }

-- ---- the first part

pub root_alone : (r : Reading) (limits : Limits) (p : PairPart) (used : List Bool) (h : IsRootTaken r limits p used)
    → RootRead r p h.superblock p.1.entries []
root_alone r limits p used h = record {
  at = h.at;
  part = h.read;
  later = All-nil (IsPartRead r);
  front = subst (λ (x : Pair). IsFront r (x ∷ [])) (sym h.at) (root_front r used h.len h.marks);
}

root_marks : (r : Reading) (limits : Limits) (p : PairPart) (used : List Bool) (h : IsRootTaken r limits p used) (j : Joined)
    → j.directories.items ≡ [] → j.parts.items ≡ [] → AreKept r limits (by_pairs (p.0 ∷ [])) [] used j
root_marks r limits p used h j none_ended none_joined =
    none_kept r limits (by_pairs (p.0 ∷ [])) used j h.len
    (subst (λ (x : Pair). Marks used (λ b. pairs_name b (x ∷ []))) (sym h.at) h.marks) none_ended none_joined

pub first_kept : (r : Reading) (limits : Limits) (p : PairPart) (used new : List Bool) (h : IsRootTaken r limits p used) (j k : Joined)
    → j.directories.items ≡ [] → j.parts.items ≡ [] → j.state ≡ 0 → KeepsNext r limits used new p j k
    → GathersTo r limits h.superblock p [] (next p.1.tail) new k
first_kept r limits p used new h j k none_ended none_joined none_moved keeps = record {
  root = root_alone r limits p used h;
  next_is = next_more r [] p.0 (with_entries p (h.superblock ∷ p.1.entries)) (ap r.part h.at ∙ h.read);
  kept = kept_more r limits (by_pairs (p.0 ∷ [])) [] used new j k p (root_marks r limits p used h j none_ended none_joined) h.complete keeps;
  state = keeps.state ∙ ap (λ (n : ℕ). bit_xor n (little_endian p.1.delta)) none_moved ∙ xor_comm 0 (little_endian p.1.delta);
}

-- ---- why a part isn't kept

module _ (d : Disk) (limits : Limits) (f : MountFault) where
  pub first_refused : (p : PairPart) (used : List Bool) (h : IsRootTaken (reading_of d) limits p used) (j : Joined)
      → j.directories.items ≡ [] → j.parts.items ≡ []
      → EntriesCause f (reading_of d) limits used (part_entries j.parts.items) p.1.entries → HasCause d f
  first_refused p used h j none_ended none_joined cause =
      let r = reading_of d in
      let kept = root_marks r limits p used h j none_ended none_joined (p ∷ []) (All-cons IsCompletePart p [] h.complete (All-nil IsCompletePart)) in
      parts_refuse d f limits p h.superblock p.1.entries [] (root_alone r limits p used h) h.judged
      (part_refuses f r limits (by_pairs (p.0 ∷ [])) (p ∷ []) used j.directories.items j.parts.items p [] kept cause)

  module _ (e : StoredEntry) (judged : SaysLimits d.size d.count limits e) (p : PairPart) (rest : List PairPart) (used : List Bool)
      (j : Joined) (pair : Pair) (h : GathersTo (reading_of d) limits e p rest (Some pair) used j) where
    pub mark_refused : AreTaken f used (pair.0 ∷ pair.1 ∷ []) → HasCause d f
    mark_refused taken =
        let r = reading_of d in
        let marks = kept_marks r limits (by_pairs (p.0 ∷ pairs_of rest)) (p ∷ rest) used j h.kept in
        let links = same_links r p e p.1.entries rest h.root judged.is.kind in
        next_refused d f (p.0 ∷ pairs_of rest) pair used h.root.front h.next_is marks.0
        (λ b. let is = marks.1 b in let all = uses_are r no_header b (p ∷ rest) (p.0 ∷ pairs_of rest) links refl in omega arith) taken

    pub read_refused : (new : List Bool) → AddsBlocks used new (pair.0 ∷ pair.1 ∷ []) → ReadCause f d pair → HasCause d f
    read_refused new adds cause = unread_pair d f (p.0 ∷ pairs_of rest) pair
        (front_with (reading_of d) limits e p rest used j pair new h adds) cause

    pub part_refused : (q : PairPart) (new : List Bool) → AddsBlocks used new (pair.0 ∷ pair.1 ∷ []) → q.0 ≡ pair
        → (reading_of d).part pair ≡ Some q.1 → IsCompletePart q
        → EntriesCause f (reading_of d) limits new (part_entries j.parts.items) q.1.entries → HasCause d f
    part_refused q new adds at read complete cause =
        let r = reading_of d in
        let here = subst (λ (x : Pair). GathersTo r limits e p rest (Some x) used j) (sym at) h in
        let marked = subst (λ (x : Pair). AddsBlocks used new (x.0 ∷ x.1 ∷ [])) (sym at) adds in
        let is_read : IsPartRead r q = record { read = ap r.part at ∙ read; complete = complete } in
        let front = front_with r limits e p rest used j q.0 new here marked in
        let all = mid_kept r limits e p rest used j q new (Some q.0) here marked (q ∷ []) (All-cons IsCompletePart q [] complete (All-nil IsCompletePart)) in
        parts_refuse d f limits p e p.1.entries (rest ++ q ∷ []) (root_with r limits e p rest used j q (Some q.0) here is_read front) judged
        (part_refuses f r limits (by_pairs (p.0 ∷ pairs_of (rest ++ q ∷ []))) (p ∷ rest ++ q ∷ []) new j.directories.items j.parts.items q []
        all cause)

-- ---- all together

-- the superblock's limits hold, and the parts so far are kept
pub record IsKeptTo (r : Reading) (limits : Limits) (p : PairPart) (behind : Option Pair) (used : List Bool) (j : Joined) : Type 0 where
  pub superblock : StoredEntry
  pub judged : SaysLimits r.size r.count limits superblock
  pub rest : List PairPart
  pub gathers : GathersTo r limits superblock p rest behind used j

-- what is marked more leaves fewer unmarked
abbrev left_one : Bool → ℕ
left_one u = cond (not u) 1 0

fewer_by : (u n : Bool) → (if u then 1 else 0) ≤ (if n then 1 else 0) → left_one n ≤ left_one u
fewer_by true true less = omega arith
fewer_by true false less = absurd (omega (arith, less))
fewer_by false true less = omega arith
fewer_by false false less = omega arith

fewer_left : (used new : List Bool) → length new ≡ length used → ((b : ℕ) → marked used b ≤ marked new b) → unmarked new ≤ unmarked used
fewer_left [] [] len more = omega arith
fewer_left [] (n ∷ new) len more = absurd (omega (arith, len))
fewer_left (u ∷ used) [] len more = absurd (omega (arith, len))
fewer_left (u ∷ used) (n ∷ new) len more =
    let rest = fewer_left used new (omega (arith, len)) (λ b. more (suc b)) in
    omega (arith, rest, fewer_by u n (more 0), sum_by-cons left_one u used, sum_by-cons left_one n new)

pub fewer_kept : (r : Reading) (limits : Limits) (used mid new : List Bool) (pair : Pair) (q : PairPart) (j k : Joined)
    → AddsBlocks used mid (pair.0 ∷ pair.1 ∷ []) → KeepsNext r limits mid new q j k → unmarked new < unmarked used
fewer_kept r limits used mid new pair q j k adds keeps =
    let less = fewer_left mid new keeps.keeps.len (λ b. let is = keeps.keeps.marks b in omega arith) in
    omega (arith, adds.fewer, less)

pub kept_len : (r : Reading) (limits : Limits) (p : PairPart) (behind : Option Pair) (used : List Bool) (j : Joined)
    → IsKeptTo r limits p behind used j → length used ≡ r.count
kept_len r limits p behind used j h =
    (kept_marks r limits (by_pairs (p.0 ∷ pairs_of h.rest)) (p ∷ h.rest) used j h.gathers.kept).0

pub joined_rise : (r : Reading) (limits : Limits) (p : PairPart) (behind : Option Pair) (used : List Bool) (j : Joined)
    → IsKeptTo r limits p behind used j → Rise (part_entries j.parts.items)
joined_rise r limits p behind used j h = (h.gathers.kept [] (All-nil IsCompletePart)).rise

-- ---- the root's part, of which the superblock was taken off

pub root_taken : (r : Reading) (was p : PairPart) (e : StoredEntry) (used : List Bool) → IsRootRead r was used
    → was ≡ with_entries p (e ∷ p.1.entries) → RootRead r p e p.1.entries []
root_taken r was p e used h taken =
    let is = subst (λ (q : PairPart). IsRootRead r q used) taken h in
    record {
      at = is.at;
      part = ap r.part (sym is.at) ∙ is.part.read;
      later = All-nil (IsPartRead r);
      front = subst (λ (x : Pair). IsFront r (x ∷ [])) (sym is.at) (root_front r used is.len is.marks);
    }

-- with the rest of the thread
pub root_with_rest : (r : Reading) (limits : Limits) (p : PairPart) (e : StoredEntry) (used : List Bool) (j : Joined)
    → RootRead r p e p.1.entries [] → (h : IsThreadKept r limits p used j) → RootRead r p e p.1.entries h.rest
root_with_rest r limits p e used j root h = record { at = root.at; part = root.part; later = h.later; front = h.is_thread.front }
