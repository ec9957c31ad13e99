-- What is read along the thread of an image without a cause is a sound volume, but for directories that are reached.
use Rattle.std.proofs.Common.{◌≡◌, ◌≢◌, ◌⊎◌, ℕ, ◌<◌, ◌≤◌, Bool, true, false, List, [], ◌∷◌, ◌++◌, map, get_or, Option, Some, None, zero}
use Rattle.std.proofs.Common.{suc, refl, ap, sym, ◌∙◌, subst, arith}
use Rattle.std.specs.Prelude.{◌==◌, All, Contains, cond, find, sum_by, count_by}
use Rattle.std.proofs.lemmas.Bool.{cases_lt}
use Rattle.std.proofs.lemmas.Bool.Decides.{nat_tests}
use Rattle.std.proofs.lemmas.List.Elements.{All-nil, All-cons, All-head, All-tail, All-weaker, All-contains, Contains-get_or}
use Rattle.std.proofs.lemmas.List.Sums.{sum_by-cons}
use mathlib.Core.Logic.{inl, inr}
use Rattle.lfs_block.specs.Disk.{Disk}
use Rattle.lfs_block.specs.declared.mount_fault.MountFault.TheVariants as fault
use Rattle.lfs_meta.specs.Body.{Pair, StoredBody, Inline as Stored_inline, Chain as Stored_chain, Directory_at as Stored_directory}
use Rattle.lfs_fs.specs.NameOrder.{precedes}
use Rattle.lfs_fs.specs.Pair.{root, same_pair}
use Rattle.lfs_fs.specs.Entry.{Entry, target}
use Rattle.lfs_fs.specs.Directory.{Directory, entries, key, begins_at, thread}
use Rattle.lfs_fs.specs.Volume.{Volume}
use Rattle.lfs_fs.specs.Tree.{Reached, entry_at, top}
use Rattle.lfs_fs.specs.Uses.{times, body_uses, entry_uses, uses}
use Rattle.lfs_fs.specs.Named.{leads_to, names_of, named}
use Rattle.lfs_fs.specs.Thread.{Link}
use Rattle.lfs_fs.specs.State.{delta_of, move_type, orphan_bit}
use Rattle.lfs_fs.specs.Sound.{StartsAtRoot, Rise}
use Rattle.lfs_fs.specs.Reading.{Reading, reading_of}
use Rattle.lfs_fs.specs.Front.{Follow, after, next_pair, pair_names, pairs_name}
use Rattle.lfs_fs.specs.Superblock.{Header, header_of}
use Rattle.lfs_fs.specs.Held.{chained, resolved_body, link_at, directories_at, volume_at}
use Rattle.lfs_fs.proofs.CountLemmas.{part_uses, uses_at, count_uses, link_pair, names_some}
use Rattle.lfs_fs.proofs.EntriesThereLemmas.{IsClear, HasFound, each_link}
use Rattle.lfs_fs.proofs.EntryAtLemmas.{found, stands_below}
use Rattle.lfs_fs.proofs.PairLemmas.{same_pair-is, same_pair-refl}
use Rattle.lfs_fs.proofs.FoldersLemmas.{starts_at_root}
use Rattle.lfs_fs.proofs.NameOrderLemmas.{precedes_transitive}
use Rattle.lfs_fs.proofs.OrderedEndLemmas.{begins-itself, last_name, root_begins, none_counted}

-- the volume that is read
abbrev pub volume_of : (d : Disk) → HasFound d → Volume
volume_of d f = volume_at (reading_of d) (header_of f.bytes f.attributes) f.pairs

abbrev header : {d : Disk} → HasFound d → Header
header f = header_of f.bytes f.attributes

-- ---- the first directory

starts_by : (r : Reading) (step : Pair → Option Pair) (ps : List Pair) → Follow step (Some root) ps → after step (Some root) ps ≡ None
    → StartsAtRoot (directories_at r ps)
starts_by r step [] follow ends = cc
starts_by r step (p ∷ ps) follow ends =
    let first : Some root ≡ Some p = follow.0 in
    let same : p ≡ root = cc in
    starts_at_root (link_at r p) (map (link_at r) ps) (link_pair r p (r.part p) ∙ same)

pub starts : (d : Disk) (f : HasFound d) → StartsAtRoot (directories_at (reading_of d) f.pairs)
starts d f = starts_by (reading_of d) (next_pair (reading_of d)) f.pairs f.is_thread.front.follow f.is_thread.ends

-- ---- names in order

-- where each two neighbours rise, each comes before all later ones
neighbours_rise : (es : List Entry) → ((before : List Entry) (left right : Entry) (after : List Entry) → es ≡ before ++ left ∷ right ∷ after
    → precedes left.name right.name ≡ true) → Rise es
neighbours_rise [] h = tt
neighbours_rise (e ∷ []) h = (All-nil (λ (x : Entry). precedes e.name x.name ≡ true), tt)
neighbours_rise (e ∷ f ∷ es) h =
    let first : precedes e.name f.name ≡ true = h [] e f es refl in
    let rest = neighbours_rise (f ∷ es) (λ before left right behind is.
    h (e ∷ before) left right behind (ap (λ (xs : List Entry). e ∷ xs) is)) in (
      All-cons (λ (x : Entry). precedes e.name x.name ≡ true) f es first
          (All-weaker (λ (x : Entry). precedes f.name x.name ≡ true) (λ (x : Entry). precedes e.name x.name ≡ true)
          (λ x later. precedes_transitive e.name f.name x.name first later) es rest.0),
      rest,
    )

true_unless : (b : Bool) → (b ≡ false → ⊥) → b ≡ true
true_unless true never = refl
true_unless false never = absurd (never refl)

pub in_order : (d : Disk) → IsClear d → (f : HasFound d) → All (λ x. Rise (entries x)) (directories_at (reading_of d) f.pairs)
in_order d c f i dflt within =
    let ds = directories_at (reading_of d) f.pairs in
    neighbours_rise (entries (get_or ds i dflt))
    (λ before left right behind is. true_unless (precedes left.name right.name)
    (λ fall. c.none fault.OrderFault tt (record {
      header = header f;
      front = f.pairs;
      is_front = f.is_thread.front;
      fault = record {
        directory = get_or ds i dflt;
        there = Contains-get_or ds i dflt within;
        before = before;
        left = left;
        right = right;
        after = behind;
        neighbours = is;
        fall = fall;
      };
    })))

-- ---- uses

sum_of_none : {X : Type 0} (w : X → ℕ) (xs : List X) → All (λ x. w x ≡ 0) xs → sum_by w xs ≡ 0
sum_of_none w [] all = refl
sum_of_none w (x ∷ xs) all = omega (
  arith,
  All-head (λ y. w y ≡ 0) x xs all,
  sum_of_none w xs (All-tail (λ y. w y ≡ 0) x xs all),
  sum_by-cons w x xs,
)

pub used_once : (d : Disk) (b : ℕ) → IsClear d → (f : HasFound d) → uses b (volume_of d f) ≤ 1
used_once d b c f =
    elim (cases_lt 1 (uses b (volume_of d f))) [
      | inl twice ↦ absurd (c.none fault.BlockTwice tt (record {
        header = header f;
        front = f.pairs;
        is_front = f.is_thread.front;
        twice = inl (b, omega arith);
      }))
      | inr once ↦ once
    ]

-- a block past the disk's is none of a chain's
no_time : (b : ℕ) (xs : List ℕ) → All (λ x. x < b) xs → times b xs ≡ 0
no_time b xs all = sum_of_none (λ (x : ℕ). cond {A = ℕ} (x == b) 1 0) xs
    (All-weaker (λ (x : ℕ). x < b) (λ (x : ℕ). cond {A = ℕ} (x == b) 1 0 ≡ 0) (λ x less. grind (arith, nat_tests)) xs all)

chain_past : (d : Disk) (b head size : ℕ) (o : Option (List ℕ)) → IsClear d → d.count ≤ b → (reading_of d).chain head size ≡ o
    → body_uses b (chained (reading_of d) size o) ≡ 0
chain_past d b head size None c past is = refl
chain_past d b head size (Some blocks) c past is = no_time b blocks (All-weaker (λ (x : ℕ). x < d.count) (λ (x : ℕ). x < b)
    (λ x less. omega arith) blocks (c.differ d head size blocks c.disk is).0)

body_past : (d : Disk) (b : ℕ) (body : StoredBody) → IsClear d → d.count ≤ b → body_uses b (resolved_body (reading_of d) body) ≡ 0
body_past d b (Stored_inline bytes) c past = refl
body_past d b (Stored_chain head size) c past = chain_past d b head size ((reading_of d).chain head size) c past refl
body_past d b (Stored_directory first second) c past = refl

pairs_alone : (r : Reading) (b : ℕ) (ps : List Pair) → All (λ (l : Link). All (λ x. entry_uses b x ≡ 0) l.part.entries) (map (link_at r) ps)
    → sum_by (λ (l : Link). part_uses b l.part) (map (link_at r) ps) ≡ pairs_name b ps
pairs_alone r b [] all = refl
pairs_alone r b (p ∷ ps) all =
    let none = sum_of_none (entry_uses b) (link_at r p).part.entries (All-head (λ (l : Link). All (λ x. entry_uses b x ≡ 0) l.part.entries)
    (link_at r p) (map (link_at r) ps) all) in
    let rest = pairs_alone r b ps (All-tail (λ (l : Link). All (λ x. entry_uses b x ≡ 0) l.part.entries) (link_at r p)
    (map (link_at r) ps) all) in
    let same : pair_names b (link_at r p).part.pair ≡ pair_names b p = ap (pair_names b) (link_pair r p (r.part p)) in
    omega (arith, sum_by-cons (pair_names b) p ps, sum_by-cons (λ (l : Link). part_uses b l.part) (link_at r p) (map (link_at r) ps))

pub used_within : (d : Disk) (b : ℕ) → IsClear d → (f : HasFound d) → 0 < uses b (volume_of d f) → b < d.count
used_within d b c f some' =
    elim (cases_lt b d.count) [
      | inl below ↦ below
      | inr past ↦
          let alone = pairs_alone (reading_of d) b f.pairs (each_link (λ x. entry_uses b x ≡ 0) d f
          (λ e s other. body_past d b e.body c past)) in
          f.is_thread.front.within b (omega (arith, uses_at (reading_of d) (header f) b f.pairs))
    ]

-- ---- names of directories

leads_none : (k : Pair) (o : Option Pair) → (o ≡ Some k → ⊥) → leads_to k o ≡ 0
leads_none k None never = refl
leads_none k (Some j) never = by (same_pair k j) refl
  where
    by : (b : Bool) → same_pair k j ≡ b → cond {A = ℕ} b 1 0 ≡ 0
    by true is = absurd (never (ap (λ (p : Pair). Some p) (sym (same_pair-is k j is))))
    by false is = refl

-- where no directory begins at a pair, nothing names it
named_never : (d : Disk) (k : Pair) → IsClear d → (f : HasFound d) → count_by (begins_at k) (directories_at (reading_of d) f.pairs) ≡ 0
    → named k (volume_of d f) ≡ 0
named_never d k c f none =
    let ds : List Directory = directories_at (reading_of d) f.pairs in
    let root_is = leads_none k (Some root) (λ same. let is : root ≡ k = cc in
    absurd (omega (arith, root_begins ds (starts d f), ap (λ (p : Pair). count_by (begins_at p) ds) is))) in
    let others = sum_of_none (names_of k) ds (λ i dflt within. sum_of_none (λ (e : Entry). leads_to k (target e))
    (entries (get_or ds i dflt))
    (λ j e_dflt e_within. leads_none k (target (get_or (entries (get_or ds i dflt)) j e_dflt))
    (λ leads. c.none fault.MissingDirectory tt (record {
      header = header f;
      pairs = f.pairs;
      is_thread = f.is_thread;
      missing = record {
        directory = get_or ds i dflt;
        there = Contains-get_or ds i dflt within;
        entry = get_or (entries (get_or ds i dflt)) j e_dflt;
        member = Contains-get_or (entries (get_or ds i dflt)) j e_dflt e_within;
        pair = k;
        leads = leads;
        none = none;
      };
    })))) in
    omega arith

named_most : (d : Disk) (k : Pair) → IsClear d → (f : HasFound d) → named k (volume_of d f) ≤ 1
named_most d k c f =
    elim (cases_lt 1 (named k (volume_of d f))) [
      | inl twice ↦ absurd (c.none fault.BlockTwice tt (record {
        header = header f;
        front = f.pairs;
        is_front = f.is_thread.front;
        twice = inr (k, omega arith);
      }))
      | inr once ↦ once
    ]

-- what is reached is named
reached_named : (v : Volume) (k : Pair) → Reached v k → 1 ≤ named k v
reached_named v k (path, e, at, leads) =
    elim (last_name path) [
      | inl top' ↦
          let is : top v ≡ e = let there : Some (top v) ≡ Some e = sym (ap (entry_at v) top') ∙ at in cc in
          let same : root ≡ k = let there : Some root ≡ Some k = ap target is ∙ leads in cc in
          let one : leads_to k (Some root) ≡ 1 = ap (λ (p : Pair). leads_to k (Some p)) same
          ∙ ap (λ (b : Bool). cond {A = ℕ} b 1 0) (same_pair-refl k) in
          omega arith
      | inr (q, n, is) ↦
          let below = stands_below v q n e (sym (ap (entry_at v) is) ∙ at) in
          names_some k v below.directory e (found (begins_at below.pair) v.directories below.directory below.begins).0 below.member leads
    ]

pub named_as_counted : (d : Disk) (k : Pair) → IsClear d → (f : HasFound d)
    → All (λ x. Reached (volume_of d f) (key x)) (directories_at (reading_of d) f.pairs)
    → named k (volume_of d f) ≡ count_by (begins_at k) (directories_at (reading_of d) f.pairs)
named_as_counted d k c f reached = by (find (begins_at k) (directories_at (reading_of d) f.pairs)) refl
  where
    by : (o : Option Directory) → find (begins_at k) (directories_at (reading_of d) f.pairs) ≡ o
        → named k (volume_of d f) ≡ count_by (begins_at k) (directories_at (reading_of d) f.pairs)
    by None is =
        let none = none_counted (begins_at k) (directories_at (reading_of d) f.pairs) is in
        named_never d k c f none ∙ sym none
    by (Some x) is =
        let one = found (begins_at k) (directories_at (reading_of d) f.pairs) x is in
        let same : key x ≡ k = sym (same_pair-is k (key x) one.1) in
        let here = subst (λ (p : Pair). 1 ≤ count_by (begins_at p) (directories_at (reading_of d) f.pairs)) same
        (begins-itself (directories_at (reading_of d) f.pairs) x one.0) in
        let named_once = subst (λ (p : Pair). 1 ≤ named p (volume_of d f)) same
        (reached_named (volume_of d f) (key x) (All-contains (λ (y : Directory). Reached (volume_of d f) (key y))
        (directories_at (reading_of d) f.pairs) x reached one.0)) in
        omega (arith, named_most d k c f, (count_uses k (volume_of d f)).0, used_once d k.0 c f)

-- ---- directories that are reached

pub not_lost : (d : Disk) (x : Directory) → IsClear d → (f : HasFound d) → Contains (directories_at (reading_of d) f.pairs) x
    → ¬ ¬ Reached (volume_of d f) (key x)
not_lost d x c f there lost = c.none fault.Orphan tt (inl (record {
  header = header f;
  pairs = f.pairs;
  is_thread = f.is_thread;
  orphan = record { directory = x; there = there; lost = lost };
}))

-- ---- the global state

zero_or_not : (n : ℕ) → (n ≡ 0) ⊎ (n ≢ 0)
zero_or_not zero = inl refl
zero_or_not (suc n) = inr (λ same. omega arith)

pub settled : (d : Disk) → IsClear d → (f : HasFound d) → delta_of (thread (directories_at (reading_of d) f.pairs)) ≡ 0
settled d c f =
    let state : ℕ = delta_of (thread (directories_at (reading_of d) f.pairs)) in
    elim (zero_or_not (move_type state)) [
      | inl still ↦ elim (zero_or_not (orphan_bit state)) [
        | inl complete ↦ elim (zero_or_not state) [
          | inl is ↦ is
          | inr other ↦ absurd (c.none fault.UnknownState tt (record {
            pairs = f.pairs;
            is_thread = f.is_thread;
            is = (other, still, complete);
          }))
        ]
        | inr set ↦ absurd (c.none fault.Orphan tt (inr (record { pairs = f.pairs; is_thread = f.is_thread; is = (still, omega arith) })))
      ]
      | inr moving ↦ absurd (c.none fault.UnfinishedMove tt (record { pairs = f.pairs; is_thread = f.is_thread; is = moving }))
    ]
