-- What a walk over directories knows at its start and at its end.
use Rattle.std.proofs.Common.{◌≡◌, ◌⊎◌, ℕ, ◌≤◌, ◌<◌, Bool, true, false, List, [], ◌∷◌, ◌++◌, Some, None, refl, ap, sym, ◌∙◌, subst, arith}
use Rattle.std.proofs.Common.{map, length, append-nil, inl, inr, cond, get_or, replicate}
use Rattle.std.specs.Prelude.{not, find, sum_by, count_by, slice_get}
use Rattle.std.specs.List.{All, Contains}
use Rattle.std.proofs.lemmas.Option.{same_Some, slice_get_within, get_or_from_slice_get, slice_get_cases}
use Rattle.std.proofs.lemmas.List.{length-map, get_or-map, length-replicate}
use Rattle.std.proofs.lemmas.List.Sums.{sum_by-cons}
use Rattle.std.proofs.lemmas.List.Elements.{All-nil, All-cons, All-head, All-tail, All-contains, Contains-get_or}
use Rattle.lfs_block.specs.declared.mount_fault.MountFault.{MountFault}
use Rattle.lfs_block.specs.declared.mount_fault.MountFault.TheVariants.{MissingDirectory, BlockTwice}
use Rattle.lfs_meta.specs.Name.{Name}
use Rattle.lfs_meta.specs.Body.{Pair}
use Rattle.lfs_fs.specs.Path.{Path}
use Rattle.lfs_fs.specs.Pair.{root, unordered, same_pair}
use Rattle.lfs_fs.specs.Entry.{Entry, target, leads}
use Rattle.lfs_fs.specs.Directory.{Directory, entries, key, begins_at}
use Rattle.lfs_fs.specs.Volume.{Volume}
use Rattle.lfs_fs.specs.Tree.{entry_at, top, Reached}
use Rattle.lfs_fs.specs.Named.{leads_to, names_of, named}
use Rattle.lfs_fs.specs.Row.{path_precedes}
use Rattle.lfs_fs.specs.Row.{Row, RowsRise}
use Rattle.lfs_fs.specs.Sound.{StartsAtRoot}
use Rattle.lfs_fs.specs.EntryFault.{NamesNoDirectory, LosesDirectory}
use Rattle.lfs_fs.specs.Ordered.{PathsRise}
use Rattle.lfs_fs.specs.DirectoryTable.{StandsAt, IsTableOf}
use Rattle.lfs_fs.specs.Ordered.{IsWalkable, IsListed, WalkCause, begun_at, times_opened, row_paths, HasRow, IsOpened, IsWalkTo, NotOpened}
use Rattle.lfs_fs.proofs.EntryAtLemmas.{by_last_name, found, stands_below}
use Rattle.lfs_fs.proofs.PairLemmas.{same_pair-refl}
use Rattle.lfs_fs.proofs.FlaggedLemmas.{flagged_none, flagged_le, flagged_all, flagged_some, flagged_room}
use Rattle.lfs_fs.proofs.CountLemmas.{element_le}

-- ---- the start

pub root_begins : (ds : List Directory) → StartsAtRoot ds → 1 ≤ count_by (begins_at root) ds
root_begins [] h = absurd h
root_begins (d ∷ ds) h =
    let here : begins_at root d ≡ true = ap (λ (p : Pair). same_pair root (unordered p)) h in
    omega (arith, ap (λ (b : Bool). cond {A = ℕ} b 1 0) here, sum_by-cons (λ (c : Directory). cond {A = ℕ} (begins_at root c) 1 0) d ds)

-- the root as what waits
abbrev pub root_row : Volume → Row
root_row v = record { path = []; entry = top v }

pub walk_start : (v : Volume) → IsWalkable v → IsWalkTo v [] (root_row v ∷ []) (replicate (length v.directories) false)
walk_start v walkable =
    let opened = replicate (length v.directories) false in
    record {
      walkable = walkable;
      flags = length-replicate (length v.directories) false;
      right = All-nil (HasRow v);
      waits = All-cons (HasRow v) (root_row v) [] refl (All-nil (HasRow v));
      rise = (All-nil (λ (q : Path). path_precedes [] q ≡ true), tt);
      distinct = (λ i d within. absurd (omega arith), tt);
      begun = (0, omega arith, refl);
      done = All-nil (IsOpened v opened ([] ∷ []));
      reached = λ k times. absurd (omega (arith, times, flagged_none (begun_at k) v.directories (length v.directories)));
      counts = λ k.
          let names = flagged_none (names_of k) v.directories (length v.directories) in
          let times = flagged_none (begun_at k) v.directories (length v.directories) in
          omega (arith, sum_by-cons (λ (r : Row). leads_to k (target r.entry)) (root_row v) []);
      tally = λ f. omega (
        arith,
        flagged_none (λ (d : Directory). sum_by f (entries d)) v.directories (length v.directories),
        sum_by-cons (λ (r : Row). f r.entry) (root_row v) [],
      );
      folders = sym (flagged_none (λ (d : Directory). 1) v.directories (length v.directories));
    }

-- ---- the end

unmapped : {X Y : Type 0} (P : Y → Type 0) (f : X → Y) (xs : List X) → All P (map f xs) → All (λ (x : X). P (f x)) xs
unmapped P f xs h = λ i d within. subst P (get_or-map f xs i d (f d) within) (h i (f d) (omega (arith, length-map xs f)))

rows_rise : (rows : List Row) → PathsRise (row_paths rows) → RowsRise rows
rows_rise [] h = tt
rows_rise (r ∷ rows) h = (unmapped (λ (q : Path). path_precedes r.path q ≡ true) (λ (s : Row). s.path) rows h.0, rows_rise rows h.1)

contains-unmap : {X Y : Type 0} (f : X → Y) (xs : List X) (y : Y) (d : X) → Contains (map f xs) y → (x : X) × Contains xs x × (f x ≡ y)
contains-unmap f xs y d (i, within, is) =
    let inside : i < length xs = omega (arith, length-map xs f) in
    (get_or xs i d, Contains-get_or xs i d inside, sym (get_or-map f xs i d y inside) ∙ is)

-- where nothing waits, all that stands at a path is listed
all_listed : (v : Volume) (rows : List Row) (opened : List Bool) → IsWalkTo v rows [] opened → (p : Path) (e : Entry)
    → entry_at v p ≡ Some e → Contains (row_paths rows) p
all_listed v rows opened walk =
    let met : row_paths rows ++ [] ≡ row_paths rows = append-nil (row_paths rows) in
    by_last_name (λ (p : Path). (e : Entry) → entry_at v p ≡ Some e → Contains (row_paths rows) p)
    (λ e there. subst (λ (ps : List Path). Contains ps []) met walk.begun)
    (λ p n above e there.
    let below = stands_below v p n e there in
    let one = All-contains (IsOpened v opened (row_paths rows ++ [])) (row_paths rows) p walk.done (above below.above below.there) in
    subst (λ (ps : List Path). Contains ps (p ++ n ∷ [])) met (one.below n e there))

none_counted_by : {X : Type 0} (b : Bool) (a : X → Bool) (x : X) (xs : List X) → a x ≡ b → cond b (Some x) (find a xs) ≡ None
    → (find a xs ≡ None → count_by a xs ≡ 0) → count_by a (x ∷ xs) ≡ 0
none_counted_by true a x xs is h rest = cc
none_counted_by {X} false a x xs is h rest = omega (
  arith,
  rest h,
  ap (λ (t : Bool). cond {A = ℕ} t 1 0) is,
  sum_by-cons (λ (y : X). cond {A = ℕ} (a y) 1 0) x xs,
)

-- what isn't found isn't there
pub none_counted : {X : Type 0} (a : X → Bool) (xs : List X) → find a xs ≡ None → count_by a xs ≡ 0
none_counted a [] h = refl
none_counted a (x ∷ xs) h = none_counted_by (a x) a x xs refl h (none_counted a xs)

pub begins-itself : (ds : List Directory) (d : Directory) → Contains ds d → 1 ≤ count_by (begins_at (key d)) ds
begins-itself ds d there =
    let least : cond {A = ℕ} (begins_at (key d) d) 1 0 ≤ count_by (begins_at (key d)) ds =
    element_le (λ (c : Directory). cond {A = ℕ} (begins_at (key d) c) 1 0) ds d there in
    let one : cond {A = ℕ} (begins_at (key d) d) 1 0 ≡ 1 = ap (λ (b : Bool). cond {A = ℕ} b 1 0) (same_pair-refl (key d)) in
    omega arith

-- one, for a file
abbrev file : Entry → ℕ
file e = cond {A = ℕ} (not (leads e)) 1 0

ones : {X : Type 0} (xs : List X) → sum_by (λ (x : X). 1) xs ≡ length xs
ones [] = refl
ones {X} (x ∷ xs) = omega (arith, ones xs, sum_by-cons (λ (y : X). 1) x xs)

pub walk_end : (v : Volume) (rows : List Row) (opened : List Bool) → All (λ b. b ≡ true) opened → IsWalkTo v rows [] opened
    → IsListed v rows
walk_end v rows opened all walk =
    let listed = all_listed v rows opened walk in
    let times : (k : Pair) → times_opened v k opened ≡ count_by (begins_at k) v.directories =
    λ k. flagged_all (begun_at k) v.directories opened walk.flags all in
    record {
      listed = record {
        rise = rows_rise rows (subst PathsRise (append-nil (row_paths rows)) walk.rise);
        right = walk.right;
        complete = λ p e there.
            let row = contains-unmap (λ (r : Row). r.path) rows p (record { path = p; entry = e }) (listed p e there) in
            let right : HasRow v row.0 = All-contains (HasRow v) rows row.0 walk.right row.1 in
            let here : entry_at v p ≡ Some row.0.entry = subst (λ (q : Path). entry_at v q ≡ Some row.0.entry) row.2 right in
            let same : e ≡ row.0.entry = same_Some e row.0.entry (sym there ∙ here) in
            let complete' : row.0 ≡ record { path = p; entry = e } = ap (λ (q : Path). record { path = q; entry = row.0.entry }) row.2
            ∙ ap (λ (f : Entry). record { path = p; entry = f }) (sym same) in
            subst (Contains rows) complete' row.1;
      };
      names = λ k. omega (arith, walk.counts k, times k, flagged_all (names_of k) v.directories opened walk.flags all);
      counted = record {
        directories = walk.folders ∙ flagged_all (λ (d : Directory). 1) v.directories opened walk.flags all ∙ ones v.directories;
        files = omega (
          arith,
          walk.tally file,
          flagged_all (λ (d : Directory). sum_by file (entries d)) v.directories opened walk.flags
              all,
        );
      };
      reached = λ i d within.
          let one = begins-itself v.directories (get_or v.directories i d) (Contains-get_or v.directories i d within) in
          walk.reached (key (get_or v.directories i d)) (omega (arith, times (key (get_or v.directories i d))));
    }

not_reached : (v : Volume) (rows : List Row) (opened : List Bool) (i : ℕ) (d : Directory) → slice_get v.directories i ≡ Some d
    → slice_get opened i ≡ Some false → IsWalkTo v rows [] opened → Reached v (key d) → ⊥
not_reached v rows opened i d at closed walk (p, e, there, leads) =
    let k : Pair = key d in
    let listed = all_listed v rows opened walk p e there in
    let done = All-contains (IsOpened v opened (row_paths rows ++ [])) (row_paths rows) p walk.done listed in
    let own : begun_at k d ≡ 1 = ap (λ (b : Bool). cond {A = ℕ} b 1 0) (same_pair-refl k) in
    absurd (omega (
      arith,
      done.named e k there leads,
      flagged_room (begun_at k) v.directories opened i d at closed,
      walk.walkable.once k,
      own,
    ))

-- a directory that wasn't opened is not reached
pub walk_orphan : (v : Volume) (rows : List Row) (opened : List Bool) (i : ℕ) → slice_get opened i ≡ Some false → IsWalkTo v rows [] opened
    → LosesDirectory v
walk_orphan v rows opened i closed walk = elim (slice_get_cases v.directories i).1 [
  | inl (d, within, at, is) ↦ record {
    directory = d;
    there = (i, within, get_or_from_slice_get v.directories i d d at);
    lost = not_reached v rows opened i d at closed walk;
  }
  | inr (past, none) ↦ absurd (omega (arith, slice_get_within opened i false closed, walk.flags))
]

-- ---- the faults of a step

pub walk_twice : (v : Volume) (rows : List Row) (x : Row) (rest : List Row) (opened : List Bool) (k : Pair) (i : ℕ) (d : Directory)
    → target x.entry ≡ Some k → slice_get v.directories i ≡ Some d → begins_at k d ≡ true → slice_get opened i ≡ Some true
    → IsWalkTo v rows (x ∷ rest) opened → (j : Pair) × (2 ≤ named j v)
walk_twice v rows x rest opened k i d leads at is flag walk =
    let one : leads_to k (target x.entry) ≡ 1 = ap (leads_to k) leads ∙ ap (λ (b : Bool). cond {A = ℕ} b 1 0) (same_pair-refl k) in
    let many : begun_at k d ≤ times_opened v k opened = flagged_some (begun_at k) v.directories opened i d at flag in
    let own : begun_at k d ≡ 1 = ap (λ (b : Bool). cond {A = ℕ} b 1 0) is in (
      k,
      omega (
        arith,
        walk.counts k,
        flagged_le (names_of k) v.directories opened,
        sum_by-cons (λ (y : Row). leads_to k (target y.entry)) x rest,
      ),
    )

pub last_name : (p : Path) → (p ≡ []) ⊎ ((q : Path) × (n : Name) × (p ≡ q ++ n ∷ []))
last_name p = by_last_name (λ (p : Path). (p ≡ []) ⊎ ((q : Path) × (n : Name) × (p ≡ q ++ n ∷ []))) (inl refl) (λ q n h. inr (q, n, refl)) p

none_begins : (k : Pair) (ds : List Directory) → All (λ (d : Directory). begins_at k d ≡ false) ds → count_by (begins_at k) ds ≡ 0
none_begins k [] all = refl
none_begins k (d ∷ ds) all =
    omega (
      arith,
      none_begins k ds (All-tail (λ (c : Directory). begins_at k c ≡ false) d ds all),
      ap (λ (b : Bool). cond {A = ℕ} b 1 0) (All-head (λ (c : Directory). begins_at k c ≡ false) d ds all),
      sum_by-cons (λ (c : Directory). cond {A = ℕ} (begins_at k c) 1 0) d ds,
    )

pub walk_missing : (v : Volume) (rows : List Row) (x : Row) (rest : List Row) (opened : List Bool) (k : Pair) → target x.entry ≡ Some k
    → All (λ d. begins_at k d ≡ false) v.directories → IsWalkTo v rows (x ∷ rest) opened → NamesNoDirectory v
walk_missing v rows x rest opened k leads absent walk =
    let here : HasRow v x = All-head (HasRow v) x rest walk.waits in
    let none : count_by (begins_at k) v.directories ≡ 0 = none_begins k v.directories absent in
    elim (last_name x.path) [
      | inl top' ↦
          let is : top v ≡ x.entry = same_Some (top v) x.entry (sym (ap (entry_at v) top') ∙ here) in
          let same : root ≡ k = same_Some root k (ap target is ∙ leads) in
          absurd (omega (
            arith,
            root_begins v.directories walk.walkable.starts,
            none,
            ap (λ (j : Pair). count_by (begins_at j) v.directories) same,
          ))
      | inr (q, n, is) ↦
          let below = stands_below v q n x.entry (sym (ap (entry_at v) is) ∙ here) in
          let d = found (begins_at below.pair) v.directories below.directory below.begins in
          record { directory = below.directory; there = d.0; entry = x.entry; member = below.member; pair = k; leads = leads; none = none }
    ]

pub walk_fault : (v : Volume) (rows : List Row) (x : Row) (rest : List Row) (opened : List Bool) (table : List (Pair × ℕ)) (k : Pair)
    (fault : MountFault) → target x.entry ≡ Some k → IsTableOf v.directories table → NotOpened table k opened fault
    → IsWalkTo v rows (x ∷ rest) opened → WalkCause v fault
walk_fault v rows x rest opened table k MissingDirectory leads is why walk =
    walk_missing v rows x rest opened k leads (subst (StandsAt v.directories k) why (is k)) walk
walk_fault v rows x rest opened table k BlockTwice leads is (i, there, flag) walk =
    let at : StandsAt v.directories k (Some i) = subst (StandsAt v.directories k) there (is k) in
    walk_twice v rows x rest opened k i at.0 leads at.1 at.2 flag walk
walk_fault v rows x rest opened table k _ leads is why walk = absurd why
