-- A walk over places lists the rows of its volume.
use Rattle.std.proofs.Common.{◌≡◌, ◌⊎◌, ℕ, ◌+◌, ◌≤◌, Bool, true, false, List, [], ◌∷◌, ◌++◌, Some, None, refl, ap, sym, ◌∙◌, subst, arith}
use Rattle.std.proofs.Common.{map, length, replicate, suc, add-one, inl, inr}
use Rattle.std.specs.Prelude.{slice_get, IsSome}
use Rattle.std.specs.List.{All}
use Rattle.std.proofs.lemmas.List.{map-append, length-append}
use Rattle.std.proofs.lemmas.List.Elements.{All-nil, All-cons, All-head, All-tail, All-append, All-push, All-weaker}
use Rattle.lfs_block.specs.declared.mount_fault.MountFault.{MountFault}
use Rattle.lfs_block.specs.declared.mount_fault.MountFault.TheVariants.{Memory}
use Rattle.lfs_meta.specs.Body.{Pair}
use Rattle.lfs_fs.specs.declared.place.Place.{Place}
use Rattle.lfs_fs.specs.Path.{Path}
use Rattle.lfs_fs.specs.Entry.{target}
use Rattle.lfs_fs.specs.Directory.{Directory, parts, entries}
use Rattle.lfs_fs.specs.Volume.{Volume}
use Rattle.lfs_fs.specs.EntryFault.{LosesDirectory}
use Rattle.lfs_fs.specs.Row.{Row}
use Rattle.lfs_fs.specs.Listed.{Listed, row_after, rows_after, last_after}
use Rattle.lfs_fs.specs.Placed.{entry_placed, listed_at, rows_of, places_in}
use Rattle.lfs_fs.specs.DirectoryTable.{IsTableOf}
use Rattle.lfs_fs.specs.Ordered.{IsWalkable, IsListed, WalkCause, Follow, IsWalkTo, IsWalking, NotOpened, Enters, flagged, work}
use Rattle.lfs_fs.proofs.FlaggedLemmas.{flagged_set, flagged_room}
use Rattle.lfs_fs.proofs.ListedLemmas.{rows_more, last_more, begins_itself, follow_longer, row_below, listed_below, follow_below}
use Rattle.lfs_fs.proofs.PlacedLemmas.{listed_children, are_places, count_places, depth_in}
use Rattle.lfs_fs.proofs.OrderedLemmas.{step_file, step_directory}
use Rattle.lfs_fs.proofs.OrderedEndLemmas.{root_row, walk_start, walk_end, walk_orphan, walk_fault}

-- ---- the start

-- the place of the root
abbrev pub root_place : Place
root_place = record { depth = 0; directory = 0; part = 0; entry = 0 }

pub walking_start : (v : Volume) (table : List (Pair × ℕ)) → IsTableOf v.directories table → IsWalkable v
    → IsWalking v table [] (root_place ∷ []) (replicate (length v.directories) false)
walking_start v table directories walkable =
    let P : Place → Type 0 = λ (p : Place). IsSome (entry_placed v p) in
    record {
      directories = directories;
      queue = root_row v ∷ [];
      follow = ([], begins_itself [], begins_itself [], refl, (λ after begins. refl), tt);
      walk = walk_start v walkable;
      listed = All-nil P;
      wait = All-cons P root_place [] refl (All-nil P);
      shallow = All-cons (λ (p : Place). p.depth ≤ 0) root_place [] (omega arith) (All-nil (λ (p : Place). p.depth ≤ 0));
    }

-- ---- what is listed next

-- the row of the place that is listed next, with the rows of those that wait
record IsNext (v : Volume) (order : List Place) (x : Place) (rest : List Place) (queue : List Row) : Type 0 where
  row : Row
  rows : List Row
  is : queue ≡ row ∷ rows
  deep : x.depth ≡ length row.path
  again : row_after (last_after [] (map (listed_at v) order)) (listed_at v x) ≡ row
  follow : Follow row.path (map (listed_at v) rest) rows

next_row : (v : Volume) (order : List Place) (x : Place) (rest : List Place) (queue : List Row)
    → Follow (last_after [] (map (listed_at v) order)) (map (listed_at v) (x ∷ rest)) queue → IsNext v order x rest queue
next_row v order x rest [] h = absurd h
next_row v order x rest (r ∷ rs) (p, before, own, deep, again, later) = record {
  row = r;
  rows = rs;
  is = refl;
  deep = deep;
  again = again (last_after [] (map (listed_at v) order)) before;
  follow = follow_longer p r.path (map (listed_at v) rest) rs own later;
}

rows_longer : (v : Volume) (order : List Place) (x : Place) (r : Row)
    → row_after (last_after [] (map (listed_at v) order)) (listed_at v x) ≡ r → rows_of v (order ++ x ∷ []) ≡ rows_of v order ++ r ∷ []
rows_longer v order x r again =
    ap (rows_after []) (map-append (listed_at v) order (x ∷ [])) ∙ rows_more [] (map (listed_at v) order) (listed_at v x)
    ∙ ap (λ (q : Row). rows_of v order ++ q ∷ []) again

last_longer : (v : Volume) (order : List Place) (x : Place) (r : Row)
    → row_after (last_after [] (map (listed_at v) order)) (listed_at v x) ≡ r → last_after [] (map (listed_at v) (order ++ x ∷ [])) ≡ r.path
last_longer v order x r again = ap (last_after []) (map-append (listed_at v) order (x ∷ []))
    ∙ last_more [] (map (listed_at v) order) (listed_at v x) ∙ ap (λ (q : Row). q.path) again

target_row : (v : Volume) (order : List Place) (x : Place) (r : Row) → row_after (last_after [] (map (listed_at v) order)) (listed_at v x)
    ≡ r → target r.entry ≡ target (listed_at v x).entry
target_row v order x r again = ap (λ (q : Row). target q.entry) (sym again)

deeper : (order : List Place) (x : Place) (rest : List Place) → All (λ (p : Place). p.depth ≤ length order) (x ∷ rest)
    → All (λ (p : Place). p.depth ≤ length (order ++ x ∷ [])) rest
deeper order x rest h =
    All-weaker (λ (p : Place). p.depth ≤ length order) (λ (p : Place). p.depth ≤ length (order ++ x ∷ []))
    (λ p few. omega (arith, few, length-append order (x ∷ []))) rest (All-tail (λ (p : Place). p.depth ≤ length order) x rest h)

-- ---- steps

pub walking_file : (v : Volume) (table : List (Pair × ℕ)) (order : List Place) (x : Place) (rest : List Place) (opened : List Bool)
    → target (listed_at v x).entry ≡ None → IsWalking v table order (x ∷ rest) opened → IsWalking v table (order ++ x ∷ []) rest opened
walking_file v table order x rest opened leads walking =
    let next = next_row v order x rest walking.queue walking.follow in
    let r : Row = next.row in
    let walk : IsWalkTo v (rows_of v order) (r ∷ next.rows) opened = subst
    (λ (q : List Row). IsWalkTo v (rows_of v order) q opened) next.is walking.walk in
    let step = step_file v (rows_of v order) r next.rows opened (target_row v order x r next.again ∙ leads) walk in
    let P : Place → Type 0 = λ (p : Place). IsSome (entry_placed v p) in
    record {
      directories = walking.directories;
      queue = next.rows;
      follow = subst (λ (p : Path). Follow p (map (listed_at v) rest) next.rows) (sym (last_longer v order x r next.again)) next.follow;
      walk = subst (λ (rows : List Row). IsWalkTo v rows next.rows opened) (sym (rows_longer v order x r next.again)) step;
      listed = All-push P order x walking.listed (All-head P x rest walking.wait);
      wait = All-tail P x rest walking.wait;
      shallow = deeper order x rest walking.shallow;
    }

pub walking_directory : (v : Volume) (table : List (Pair × ℕ)) (order : List Place) (x : Place) (rest : List Place)
    (opened again : List Bool) (k : Pair) (longer : List Place) → target (listed_at v x).entry ≡ Some k
    → Enters v.directories table k (x.depth + 1) opened again rest longer
    → IsWalking v table order (x ∷ rest) opened → IsWalking v table (order ++ x ∷ []) longer again
walking_directory v table order x rest opened again k longer leads enters walking =
    let next = next_row v order x rest walking.queue walking.follow in
    let r : Row = next.row in
    let d : Directory = enters.directory in
    let i : ℕ = enters.index in
    let n : ℕ = suc x.depth in
    let places : List Place = places_in n i 0 (parts d) in
    let pushed : longer ≡ places ++ rest = enters.pushed ∙ ap (λ (m : ℕ). places_in m i 0 (parts d) ++ rest) (add-one x.depth) in
    let walk : IsWalkTo v (rows_of v order) (r ∷ next.rows) opened = subst
    (λ (q : List Row). IsWalkTo v (rows_of v order) q opened) next.is walking.walk in
    let step = step_directory v (rows_of v order) r next.rows opened k i d
    (target_row v order x r next.again ∙ leads) enters.there enters.begins enters.opens.new walk in
    let P : Place → Type 0 = λ (p : Place). IsSome (entry_placed v p) in
    let queue : List Row = map (row_below r.path) (entries d) ++ next.rows in
    let children : Follow r.path (map (listed_below n) (entries d) ++ map (listed_at v) rest) queue =
    follow_below r.path n (entries d) (map (listed_at v) rest) next.rows (ap suc next.deep) next.follow in
    let listed' : map (listed_at v) (places ++ rest) ≡ map (listed_below n) (entries d) ++ map (listed_at v) rest =
    map-append (listed_at v) places rest ∙ ap (λ (ls : List Listed). ls ++ map (listed_at v) rest)
    (listed_children v x.depth i d enters.there) in
    let follow' : Follow r.path (map (listed_at v) (places ++ rest)) queue =
    subst (λ (ls : List Listed). Follow r.path ls queue) (sym listed') children in
    let few : n ≤ length (order ++ x ∷ []) = omega (
      arith,
      All-head (λ (p : Place). p.depth ≤ length order) x rest walking.shallow,
      length-append order (x ∷ []),
    ) in
    rw pushed (record {
      directories = walking.directories;
      queue = queue;
      follow = subst (λ (p : Path). Follow p (map (listed_at v) (places ++ rest)) queue) (sym (last_longer v order x r next.again)) follow';
      walk = subst (λ (rows : List Row). IsWalkTo v rows queue again) (sym (rows_longer v order x r next.again))
          (subst (λ (flags : List Bool). IsWalkTo v (rows_of v order ++ r ∷ []) queue flags) (sym enters.opens.noted) step);
      listed = All-push P order x walking.listed (All-head P x rest walking.wait);
      wait = All-append P places rest (are_places v x.depth i d enters.there) (All-tail P x rest walking.wait);
      shallow = All-append (λ (p : Place). p.depth ≤ length (order ++ x ∷ [])) places rest
          (depth_in n i 0 (parts d) (length (order ++ x ∷ [])) few) (deeper order x rest walking.shallow);
    })

-- why a directory isn't entered
pub walking_fault : (v : Volume) (table : List (Pair × ℕ)) (order : List Place) (x : Place) (rest : List Place) (opened : List Bool)
    (k : Pair) (fault : MountFault) → target (listed_at v x).entry ≡ Some k
    → (fault ≡ Memory) ⊎ NotOpened table k opened fault → IsWalking v table order (x ∷ rest) opened → WalkCause v fault
walking_fault v table order x rest opened k fault leads (inl memory) walking = rw memory tt
walking_fault v table order x rest opened k fault leads (inr why) walking =
    let next = next_row v order x rest walking.queue walking.follow in
    let walk : IsWalkTo v (rows_of v order) (next.row ∷ next.rows) opened =
    subst (λ (q : List Row). IsWalkTo v (rows_of v order) q opened) next.is walking.walk in
    walk_fault v (rows_of v order) next.row next.rows opened table k fault
    (target_row v order x next.row next.again ∙ leads) walking.directories why walk

-- a directory's entries wait, which were still to be listed
pub work_less : (v : Volume) (table : List (Pair × ℕ)) (x : Place) (opened again : List Bool) (k : Pair) (waiting longer : List Place)
    → Enters v.directories table k (x.depth + 1) opened again waiting longer → work v longer again ≤ work v waiting opened
work_less v table x opened again k waiting longer enters =
    let d : Directory = enters.directory in
    let i : ℕ = enters.index in
    let f : Directory → ℕ = λ (c : Directory). length (entries c) in
    let places : length (places_in (x.depth + 1) i 0 (parts d)) ≡ f d =
    ap (λ (m : ℕ). length (places_in m i 0 (parts d))) (add-one x.depth) ∙ count_places v x.depth i d enters.there in
    let set' : flagged f v.directories again ≡ flagged f v.directories opened + f d =
    ap (flagged f v.directories) enters.opens.noted ∙ flagged_set f v.directories opened i d enters.there enters.opens.new in
    let room = flagged_room f v.directories opened i d enters.there enters.opens.new in
    let len : length longer ≡ length (places_in (x.depth + 1) i 0 (parts d)) + length waiting =
    ap length enters.pushed ∙ length-append (places_in (x.depth + 1) i 0 (parts d)) waiting in
    omega (arith, places, set', room, len)

-- ---- the end

no_rows : (q : Path) (rows : List Row) → Follow q [] rows → rows ≡ []
no_rows q [] h = refl
no_rows q (r ∷ rows) h = absurd h

nothing_waits : (v : Volume) (table : List (Pair × ℕ)) (order : List Place) (opened : List Bool) → IsWalking v table order [] opened
    → IsWalkTo v (rows_of v order) [] opened
nothing_waits v table order opened walking =
    subst (λ (q : List Row). IsWalkTo v (rows_of v order) q opened) (no_rows
    (last_after [] (map (listed_at v) order)) walking.queue walking.follow) walking.walk

pub walking_end : (v : Volume) (table : List (Pair × ℕ)) (order : List Place) (opened : List Bool) → All (λ b. b ≡ true) opened
    → IsWalking v table order [] opened → IsListed v (rows_of v order)
walking_end v table order opened all walking = walk_end v (rows_of v order) opened all (nothing_waits v table order opened walking)

pub walking_orphan : (v : Volume) (table : List (Pair × ℕ)) (order : List Place) (opened : List Bool) (i : ℕ)
    → slice_get opened i ≡ Some false → IsWalking v table order [] opened → LosesDirectory v
walking_orphan v table order opened i closed walking = walk_orphan v (rows_of v order) opened i closed
    (nothing_waits v table order opened walking)
