-- A walk over the directories of a volume lists its rows.
use Rattle.std.proofs.Common.{◌≡◌, ℕ, ◌+◌, ◌≤◌, Bool, true, false, List, [], ◌∷◌, ◌++◌, Option, Some, None, refl, ap, sym, ◌∙◌, subst}
use Rattle.std.proofs.Common.{arith, map, append_assoc, inl, inr, cond, get_or, set, zero, suc}
use Rattle.std.specs.Prelude.{find, sum_by, count_by, slice_get, is_some}
use Rattle.std.specs.List.{All, Contains}
use Rattle.std.proofs.lemmas.Option.{none-some, same_Some, slice_get_within, get_or_from_slice_get}
use Rattle.std.proofs.lemmas.List.{map-append, length-set}
use Rattle.std.proofs.lemmas.List.Sums.{sum_by-cons, sum_by-append, sum_by_push}
use Rattle.std.proofs.lemmas.List.Elements.{All-nil, All-head, All-tail, All-append, All-push, All-weaker, All-contains, All-map}
use Rattle.std.proofs.lemmas.List.Elements.{Contains-append_left, Contains-append_right, Contains-append_cases, Contains-get_or}
use Rattle.std.proofs.lemmas.Slice.Eq.{bytes_eq-Decides}
use Rattle.lfs_meta.specs.Name.{Name}
use Rattle.lfs_meta.specs.Body.{Pair}
use Rattle.lfs_fs.specs.NameOrder.{precedes}
use Rattle.lfs_fs.specs.Path.{Path}
use Rattle.lfs_fs.specs.Pair.{same_pair}
use Rattle.lfs_fs.specs.Entry.{Entry, target, leads, is_named}
use Rattle.lfs_fs.specs.Directory.{Directory, entries, key, begins_at}
use Rattle.lfs_fs.specs.Volume.{Volume}
use Rattle.lfs_fs.specs.Tree.{entry_at, Reached}
use Rattle.lfs_fs.specs.Named.{leads_to, names_of}
use Rattle.lfs_fs.specs.Sound.{Rise}
use Rattle.lfs_fs.specs.Row.{path_precedes}
use Rattle.lfs_fs.specs.Row.{Row}
use Rattle.lfs_fs.specs.Ordered.{apart, AreApart, PathsRise}
use Rattle.lfs_fs.specs.Ordered.{begun_at, times_opened, row_paths, HasRow, IsOpened, IsWalkTo}
use Rattle.lfs_fs.proofs.ApartLemmas.{apart_below, apart_names, below_precedes, ApartFrom, apart-append, rise_apart, rise-insert}
use Rattle.lfs_fs.proofs.EntryAtLemmas.{found, named_finds, entry_below, nothing_below}
use Rattle.lfs_fs.proofs.PairLemmas.{same_pair-is}
use Rattle.lfs_fs.proofs.CountLemmas.{element_le}
use Rattle.lfs_fs.proofs.FlaggedLemmas.{flagged_set}
use Rattle.lfs_fs.proofs.ListedLemmas.{row_below}
use Rattle.lfs_fs.proofs.ContainsLemmas.{contains_later, contains_mapped}

-- ---- a step, whatever is put before what waits

record IsPutIn (v : Volume) (x : Row) (more : List Row) (opened : List Bool) : Type 0 where
  waits : All (HasRow v) more
  distinct : AreApart (row_paths more)
  after : All (λ (q : Path). path_precedes x.path q ≡ true) (row_paths more)
  before : (q : Path) → apart x.path q ≡ true → All (λ (c : Path). apart c q ≡ true) (row_paths more)
  named : (e : Entry) (k : Pair) → entry_at v x.path ≡ Some e → target e ≡ Some k → 1 ≤ times_opened v k opened
  below : (n : Name) (e : Entry) → entry_at v (x.path ++ n ∷ []) ≡ Some e → Contains (row_paths more) (x.path ++ n ∷ [])

-- the paths that were met before and those that are met after
met_after : (rows : List Row) (x : Row) (more rest : List Row) → row_paths (rows ++ x ∷ []) ++ row_paths (more ++ rest)
    ≡ row_paths rows ++ (x.path ∷ (row_paths more ++ row_paths rest))
met_after rows x more rest =
    let paths : row_paths (rows ++ x ∷ []) ≡ row_paths rows ++ x.path ∷ [] = map-append (λ (r : Row). r.path) rows (x ∷ []) in
    let queue : row_paths (more ++ rest) ≡ row_paths more ++ row_paths rest = map-append (λ (y : Row). y.path) more rest in
    ap (λ (ps : List Path). ps ++ row_paths (more ++ rest)) paths ∙ append_assoc (row_paths rows) (x.path ∷ []) (row_paths (more ++ rest))
    ∙ ap (λ (ps : List Path). row_paths rows ++ (x.path ∷ ps)) queue

-- what was met stays met
pub met_stays : (ps : List Path) (p : Path) (more rest : List Path) (q : Path) → Contains (ps ++ p ∷ rest) q
    → Contains (ps ++ (p ∷ (more ++ rest))) q
met_stays ps p more rest q there = elim (Contains-append_cases ps (p ∷ rest) q there) [
  | inl front ↦ Contains-append_left ps (p ∷ (more ++ rest)) q front
  | inr back ↦ Contains-append_right ps (p ∷ (more ++ rest)) q (elim (Contains-append_cases (p ∷ []) rest q back) [
    | inl one ↦ Contains-append_left (p ∷ []) (more ++ rest) q one
    | inr later ↦ contains_later p (more ++ rest) q (Contains-append_right more rest q later)
  ])
]

opened_more : (v : Volume) (opened again : List Bool) (met wider : List Path) (p : Path)
    → ((k : Pair) → times_opened v k opened ≤ times_opened v k again) → ((q : Path) → Contains met q → Contains wider q)
    → IsOpened v opened met p → IsOpened v again wider p
opened_more v opened again met wider p more stays is = record {
  named = λ e k there leads. let few = is.named e k there leads in let many = more k in omega arith;
  below = λ n e there. stays (p ++ n ∷ []) (is.below n e there);
}

-- an entry is listed, and others are put before what waits
record IsStep (v : Volume) (rows : List Row) (x : Row) (more rest : List Row) (again : List Bool) : Type 0 where
  right : All (HasRow v) (rows ++ x ∷ [])
  waits : All (HasRow v) (more ++ rest)
  rise : PathsRise (row_paths (rows ++ x ∷ []) ++ row_paths (more ++ rest))
  distinct : AreApart (row_paths (more ++ rest))
  top : Contains (row_paths (rows ++ x ∷ []) ++ row_paths (more ++ rest)) []
  done : All (IsOpened v again (row_paths (rows ++ x ∷ []) ++ row_paths (more ++ rest))) (row_paths (rows ++ x ∷ []))

step_paths : (v : Volume) (rows : List Row) (x : Row) (more rest : List Row) (opened again : List Bool)
    → ((k : Pair) → times_opened v k opened ≤ times_opened v k again) → IsPutIn v x more again → IsWalkTo v rows (x ∷ rest) opened
    → IsStep v rows x more rest again
step_paths v rows x more rest opened again grows put walk =
    let ps = row_paths rows in
    let cs = row_paths more in
    let qs = row_paths rest in
    let met = ps ++ (x.path ∷ (cs ++ qs)) in
    let met_is = met_after rows x more rest in
    let queue : row_paths (more ++ rest) ≡ cs ++ qs = map-append (λ (y : Row). y.path) more rest in
    let paths : row_paths (rows ++ x ∷ []) ≡ ps ++ x.path ∷ [] = map-append (λ (r : Row). r.path) rows (x ∷ []) in
    let here : HasRow v x = All-head (HasRow v) x rest walk.waits in
    let between : ApartFrom cs qs = λ i d within j e inside. put.before (get_or qs j e) (walk.distinct.0 j e inside) i d within in
    let apart_all : AreApart (cs ++ qs) = apart-append cs qs put.distinct walk.distinct.1 between in
    let stays : (q : Path) → Contains (ps ++ x.path ∷ qs) q → Contains met q = λ q there. met_stays ps x.path cs qs q there in
    let old : All (IsOpened v again met) ps = All-weaker (IsOpened v opened (ps ++ x.path ∷ qs)) (IsOpened v again met)
    (λ p is. opened_more v opened again (ps ++ x.path ∷ qs) met p grows stays is) ps walk.done in
    let new : IsOpened v again met x.path = record {
      named = put.named;
      below = λ n e there. Contains-append_right ps (x.path ∷ (cs ++ qs)) (x.path ++ n ∷ [])
          (contains_later x.path (cs ++ qs) (x.path ++ n ∷ []) (Contains-append_left cs qs (x.path ++ n ∷ []) (put.below n e there)));
    } in
    let done : All (IsOpened v again met) (row_paths (rows ++ x ∷ [])) =
    subst (All (IsOpened v again met)) (sym paths) (All-push (IsOpened v again met) ps x.path old new) in
    record {
      right = All-push (HasRow v) rows x walk.right here;
      waits = All-append (HasRow v) more rest put.waits (All-tail (HasRow v) x rest walk.waits);
      rise = subst PathsRise (sym met_is) (rise-insert ps x.path cs qs walk.rise (rise_apart (cs ++ qs) apart_all) put.after);
      distinct = subst AreApart (sym queue) apart_all;
      top = subst (λ (ms : List Path). Contains ms []) (sym met_is) (stays [] walk.begun);
      done = subst (λ (ms : List Path). All (IsOpened v again ms) (row_paths (rows ++ x ∷ []))) (sym met_is) done;
    }

-- ---- a file is listed

nothing_put : (v : Volume) (x : Row) (opened : List Bool) → HasRow v x → target x.entry ≡ None → IsPutIn v x [] opened
nothing_put v x opened here leads = record {
  waits = All-nil (HasRow v);
  distinct = tt;
  after = All-nil (λ (q : Path). path_precedes x.path q ≡ true);
  before = λ q before. All-nil (λ (c : Path). apart c q ≡ true);
  named = λ e k there to. let same : x.entry ≡ e = same_Some x.entry e (sym here ∙ there) in
      absurd (none-some k (sym (ap target (sym same) ∙ leads) ∙ to));
  below = λ n e there. absurd (none-some e (sym (nothing_below v x.path n x.entry here leads) ∙ there));
}

pub step_file : (v : Volume) (rows : List Row) (x : Row) (rest : List Row) (opened : List Bool) → target x.entry ≡ None
    → IsWalkTo v rows (x ∷ rest) opened → IsWalkTo v (rows ++ x ∷ []) rest opened
step_file v rows x rest opened none walk =
    let here : HasRow v x = All-head (HasRow v) x rest walk.waits in
    let step = step_paths v rows x [] rest opened opened (λ k. omega arith) (nothing_put v x opened here none) walk in
    record {
      walkable = walk.walkable;
      flags = walk.flags;
      right = step.right;
      waits = step.waits;
      rise = step.rise;
      distinct = step.distinct;
      begun = step.top;
      done = step.done;
      reached = walk.reached;
      counts = λ k. omega (arith, walk.counts k, ap (leads_to k) none, sum_by-cons (λ (y : Row). leads_to k (target y.entry)) x rest);
      tally = λ f. omega (arith, walk.tally f, sum_by-cons (λ (y : Row). f y.entry) x rest, sum_by_push (λ (y : Row). f y.entry) rows x);
      folders = omega (
        arith,
        walk.folders,
        ap (λ (o : Option Pair). cond {A = ℕ} (is_some o) 1 0) none,
        sum_by_push (λ (y : Row). cond {A = ℕ} (leads y.entry) 1 0) rows x,
      );
    }

-- ---- a directory is listed, and its entries wait

-- what holds of everything holds of all of a list
pub every : {X : Type 0} (P : X → Type 0) (xs : List X) → ((x : X) → P x) → All P xs
every P xs h = λ i d within. h (get_or xs i d)

-- what holds of the paths of all entries
child_paths : (P : Path → Type 0) (p : Path) (es : List Entry) → All (λ (f : Entry). P (p ++ f.name ∷ [])) es
    → All P (row_paths (map (row_below p) es))
child_paths P p es h = All-map P (λ (y : Row). y.path) (map (row_below p) es) (All-map (λ (y : Row). P y.path) (row_below p) es h)

children_apart : (p : Path) (es : List Entry) → Rise es → AreApart (row_paths (map (row_below p) es))
children_apart p [] rise = tt
children_apart p (e ∷ es) rise = (
  child_paths (λ (q : Path). apart (p ++ e.name ∷ []) q ≡ true) p es (All-weaker (λ (f : Entry). precedes e.name f.name ≡ true)
      (λ (f : Entry). apart (p ++ e.name ∷ []) (p ++ f.name ∷ []) ≡ true) (λ f before. apart_names p e.name f.name before) es rise.0),
  children_apart p es rise.1,
)

children_put : (v : Volume) (x : Row) (opened : List Bool) (k : Pair) (d : Directory) → HasRow v x → target x.entry ≡ Some k
    → find (begins_at k) v.directories ≡ Some d → Rise (entries d) → 1 ≤ times_opened v k opened
    → IsPutIn v x (map (row_below x.path) (entries d)) opened
children_put v x opened k d there leads begins rise many = record {
  waits = All-map (HasRow v) (row_below x.path) (entries d) (λ i c within.
      let f : Entry = get_or (entries d) i c in
      entry_below v x.path f.name x.entry k d there leads begins ∙ named_finds (entries d) f rise (Contains-get_or (entries d) i c within));
  distinct = children_apart x.path (entries d) rise;
  after = child_paths (λ (q : Path). path_precedes x.path q ≡ true) x.path (entries d)
      (every (λ (f : Entry). path_precedes x.path (x.path ++ f.name ∷ []) ≡ true) (entries d) (λ f. below_precedes x.path f.name));
  before = λ q before. child_paths (λ (c : Path). apart c q ≡ true) x.path (entries d)
      (every (λ (f : Entry). apart (x.path ++ f.name ∷ []) q ≡ true) (entries d) (λ f. apart_below x.path (f.name ∷ []) q before));
  named = λ other j is to.
      let same : x.entry ≡ other = same_Some x.entry other (sym there ∙ is) in
      let pair : k ≡ j = same_Some k j (sym leads ∙ ap target same ∙ to) in
      subst (λ (i : Pair). 1 ≤ times_opened v i opened) pair many;
  below = λ n f is.
      let one = found (is_named n) (entries d) f (sym (entry_below v x.path n x.entry k d there leads begins) ∙ is) in
      let same : n ≡ f.name = (bytes_eq-Decides n f.name).0 one.1 in
      let member : Contains (row_paths (map (row_below x.path) (entries d))) (x.path ++ f.name ∷ []) =
      contains_mapped (λ (y : Row). y.path) (map (row_below x.path) (entries d)) (row_below x.path f)
      (contains_mapped (row_below x.path) (entries d) f one.0) in
      subst (λ (m : Name). Contains (row_paths (map (row_below x.path) (entries d))) (x.path ++ m ∷ [])) (sym same) member;
}

-- ---- the step of a directory

-- where one directory begins at a pair, it is the one that is found
pub once_finds : {X : Type 0} (a : X → Bool) (xs : List X) (i : ℕ) (x : X) → count_by a xs ≤ 1 → slice_get xs i ≡ Some x → a x ≡ true
    → find a xs ≡ Some x
once_finds a [] i x once at is = absurd (none-some x at)
once_finds {X} a (y ∷ xs) i x once at is = by (a y) a y xs i x refl once at is (λ few j there. once_finds a xs j x few there is)
  where
    by : (b : Bool) (a : X → Bool) (y : X) (xs : List X) (i : ℕ) (x : X) → a y ≡ b → count_by a (y ∷ xs) ≤ 1 → slice_get (y ∷ xs) i ≡ Some x
        → a x ≡ true
        → (count_by a xs ≤ 1 → (j : ℕ) → slice_get xs j ≡ Some x → find a xs ≡ Some x) → cond b (Some y) (find a xs) ≡ Some x
    by true a y xs zero x this once at is rest = at
    by true a y xs (suc j) x this once at is rest =
        let there : Contains xs x = (j, slice_get_within xs j x at, get_or_from_slice_get xs j x x at) in
        let one : cond {A = ℕ} (a x) 1 0 ≤ count_by a xs = element_le (λ (z : X). cond {A = ℕ} (a z) 1 0) xs x there in
        absurd (omega (
          arith,
          one,
          ap (λ (b : Bool). cond {A = ℕ} b 1 0) is,
          ap (λ (b : Bool). cond {A = ℕ} b 1 0) this,
          sum_by-cons (λ (z : X). cond {A = ℕ} (a z) 1 0) y xs,
        ))
    by false a y xs zero x this once at is rest = let same : y ≡ x = same_Some y x at in cc (same, this, is)
    by false a y xs (suc j) x this once at is rest =
        rest (omega (arith, once, ap (λ (b : Bool). cond {A = ℕ} b 1 0) this, sum_by-cons (λ (z : X). cond {A = ℕ} (a z) 1 0) y xs)) j at

children_sum : (f : Entry → ℕ) (p : Path) (es : List Entry) → sum_by (λ (y : Row). f y.entry) (map (row_below p) es) ≡ sum_by f es
children_sum f p [] = refl
children_sum f p (e ∷ es) = omega (
  arith,
  children_sum f p es,
  sum_by-cons (λ (y : Row). f y.entry) (row_below p e) (map (row_below p) es),
  sum_by-cons f e es,
)

begun-same : (j k : Pair) (d : Directory) → k ≡ key d → begun_at j d ≡ cond {A = ℕ} (same_pair j k) 1 0
begun-same j k d is = ap (λ (p : Pair). cond {A = ℕ} (same_pair j p) 1 0) (sym is)

pub step_directory : (v : Volume) (rows : List Row) (x : Row) (rest : List Row) (opened : List Bool) (k : Pair) (i : ℕ) (d : Directory)
    → target x.entry ≡ Some k → slice_get v.directories i ≡ Some d → begins_at k d ≡ true → slice_get opened i ≡ Some false
    → IsWalkTo v rows (x ∷ rest) opened
    → IsWalkTo v (rows ++ x ∷ []) (map (row_below x.path) (entries d) ++ rest) (set opened i true)
step_directory v rows x rest opened k i d to at is new walk =
    let here : HasRow v x = All-head (HasRow v) x rest walk.waits in
    let again = set opened i true in
    let begins : find (begins_at k) v.directories ≡ Some d = once_finds (begins_at k) v.directories i d (walk.walkable.once k) at is in
    let rise : Rise (entries d) = All-contains (λ (c : Directory). Rise (entries c)) v.directories d walk.walkable.order
    (found (begins_at k) v.directories d begins).0 in
    let noted : (j : Pair) → times_opened v j again ≡ times_opened v j opened + begun_at j d =
    λ j. flagged_set (begun_at j) v.directories opened i d at new in
    let grows : (j : Pair) → times_opened v j opened ≤ times_opened v j again = λ j. omega (arith, noted j) in
    let many : 1 ≤ times_opened v k again = omega (arith, noted k, ap (λ (b : Bool). cond {A = ℕ} b 1 0) is) in
    let more = map (row_below x.path) (entries d) in
    let step = step_paths v rows x more rest opened again grows (children_put v x again k d here to begins rise many) walk in
    record {
      walkable = walk.walkable;
      flags = length-set opened i true ∙ walk.flags;
      right = step.right;
      waits = step.waits;
      rise = step.rise;
      distinct = step.distinct;
      begun = step.top;
      done = step.done;
      reached = λ j times. reached_by (same_pair j k) v k j (begun_at j d) (begun-same j k d (same_pair-is k (key d) is)) refl
          (x.path, x.entry, here, to) (walk.reached j) (omega (arith, times, noted j));
      counts = λ j.
          let before = walk.counts j in
          let head = sum_by-cons (λ (z : Row). leads_to j (target z.entry)) x rest in
          let front = sum_by-append (λ (z : Row). leads_to j (target z.entry)) more rest in
          let named' = children_sum (λ (e : Entry). leads_to j (target e)) x.path (entries d) in
          let one' : leads_to j (target x.entry) ≡ cond {A = ℕ} (same_pair j k) 1 0 = ap (leads_to j) to in
          let begun' = begun-same j k d (same_pair-is k (key d) is) in
          let names' = flagged_set (names_of j) v.directories opened i d at new in
          let times' = noted j in
          omega arith;
      tally = λ f.
          let before = walk.tally f in
          let head = sum_by-cons (λ (z : Row). f z.entry) x rest in
          let front = sum_by-append (λ (z : Row). f z.entry) more rest in
          let last = sum_by_push (λ (z : Row). f z.entry) rows x in
          let below = children_sum f x.path (entries d) in
          let opened' = flagged_set (λ (c : Directory). sum_by f (entries c)) v.directories opened i d at new in
          omega arith;
      folders = omega (
        arith,
        walk.folders,
        ap (λ (o : Option Pair). cond {A = ℕ} (is_some o) 1 0) to,
        sum_by_push (λ (z : Row). cond {A = ℕ} (leads z.entry) 1 0) rows x,
        flagged_set (λ (c : Directory). 1) v.directories opened i d at new,
      );
    }
  where
    reached_by : (b : Bool) (v : Volume) (k j : Pair) (begun : ℕ) → begun ≡ cond {A = ℕ} (same_pair j k) 1 0 → same_pair j k ≡ b
        → Reached v k → (1 ≤ times_opened v j opened → Reached v j) → 1 ≤ times_opened v j opened + begun → Reached v j
    reached_by true v k j begun is same there old times = subst (Reached v) (sym (same_pair-is j k same)) there
    reached_by false v k j begun is differ there old times = old (omega (arith, times, is, ap (λ (b : Bool). cond {A = ℕ} b 1 0) differ))
