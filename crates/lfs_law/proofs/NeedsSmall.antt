-- What a command needs is a number of 32 bits.
use Rattle.std.proofs.Common.{◌≡◌, ℕ, ◌+◌, ◌*◌, ◌-◌, ◌≤◌, zero, suc, ◌&&◌, not, Bool, true, false, cond, List, [], ◌∷◌, ◌++◌, length, refl}
use Rattle.std.proofs.Common.{ap, sym, ◌∙◌, subst, arith, map, Option, Some, None}
use Rattle.std.specs.Prelude.{All, if◌then◌else◌, sum_by, nat_le, nat_lt, is_none}
use Rattle.std.specs.List.{filter, list_any}
use Rattle.std.proofs.lemmas.List.Elements.{All-append, All-nil, All-cons, All-head, All-tail}
use Rattle.std.proofs.lemmas.List.Sums.{sum_by-cons}
use Rattle.std.proofs.lemmas.Bool.{ltb-false}
use Rattle.lfs_meta.specs.Name.{Name}
use Rattle.lfs_meta.specs.Attribute.{Attributes, set_attribute, remove_attribute}
use Rattle.lfs_meta.specs.Body.{Pair}
use Rattle.lfs_meta.specs.Runs.{runs_after, run_takes}
use Rattle.lfs_file.specs.Capacity.{least_from, least_blocks, bytes_of_blocks as file_room}
use Rattle.lfs_fs.specs.NameOrder.{NamesAreOrdered, precedes}
use Rattle.lfs_fs.specs.Path.{Path}
use Rattle.lfs_fs.specs.Entry.{Body, Directory_at, Entry, is_named, target}
use Rattle.lfs_fs.specs.Weight.{weight, superblock_weight}
use Rattle.lfs_fs.specs.Directory.{Part, Directory, parts, begins_at, thread}
use Rattle.lfs_fs.specs.Volume.{Volume}
use Rattle.lfs_fs.specs.State.{delta_of}
use Rattle.lfs_fs.specs.Sound.{IsSound}
use Rattle.lfs_fs.specs.Superblock.{IsLimits}
use Rattle.lfs_fs.specs.Tree.{entry_at, tree}
use Rattle.lfs_command.specs.EntryEdit.{place, without, changed}
use Rattle.lfs_command.specs.DirectoryEdit.{touch, has_name, unlink_in, change_in, behind, link_parts, link_in, touch_last_of, touch_last}
use Rattle.lfs_command.specs.DirectoryEdit.{absorb_in, absorb, taking_up, drop_later, has_only}
use Rattle.lfs_law.proofs.DirectoryEdits.{dropped}
use Rattle.lfs_command.specs.ThreadEdit.{in_directory, link, unlink, change, add_after, take_out, touch_first}
use Rattle.lfs_command.specs.Command.{Command, Mkdir, Put, Rm, Mv, SetAttr, RmAttr, Grow}
use Rattle.lfs_command.specs.Supplies.{nothing, inline_limit, new_body}
use Rattle.lfs_command.specs.Parent.{parent_of}
use Rattle.lfs_command.specs.Edited.{with_body, with_entry_attributes, renamed, new_entry, empty_directory, set_attributes, make_directory}
use Rattle.lfs_command.specs.Edited.{put_file, drop_target, remove_entry, move_entry, edited}
use Rattle.lfs_command.specs.Clean.{IsClean}
use Rattle.lfs_command.specs.Cut.{room, is_first}
use Rattle.lfs_command.specs.Need.{data_blocks, directory_blocks, part_blocks}
use Rattle.lfs_law.specs.NeedsSmall.{NeedsAreSmall}
use Rattle.lfs_command.specs.declared.refusal.Refusal.TheVariants.{IsRoot, IsADirectory, NameTooLong, FileTooLarge}
use Rattle.lfs_command.specs.Verdict.{refuse_if, first_refusal, checks, walk_refusal, is_root, is_directory, last_length}
use Rattle.lfs_law.proofs.EntriesThere.{stands_at_parent}
use Rattle.lfs_law.proofs.FewParts.{parent_once, unmarked, set_few, put_few, remove_few, move_few}
use Rattle.lfs_law.proofs.Parents.{first_passes, test_passes}
use Rattle.lfs_law.proofs.Marks.{marks, marks_link, marks_add_after, marks_touch_first}
use Rattle.lfs_law.proofs.RunCounts.{length_by}

-- ---- runs

pub runs_few : (space taken len : ℕ) (es : List Entry) → length (runs_after weight space taken len es) ≤ length es + 1
unfolding runs_after
runs_few space taken len [] = omega arith
runs_few space taken len (e ∷ es) =
    subst (λ (n : ℕ). n ≤ length (e ∷ es) + 1) (sym (length_by space taken len e es (run_takes space taken len (weight e)) refl))
    (by (run_takes space taken len (weight e)) (runs_few space (taken + weight e) (len + 1) es) (runs_few space (weight e) 1 es))
  where
    by : (t : Bool) → length (runs_after weight space (taken + weight e) (len + 1) es) ≤ length es + 1
        → length (runs_after weight space (weight e) 1 es) ≤ length es + 1
        → (if t then length (runs_after weight space (taken + weight e) (len + 1) es) else length (runs_after weight space (weight e) 1 es)
        + 1) ≤ length (e ∷ es) + 1
    by true x y = omega (arith, x)
    by false x y = omega (arith, y)

pub blocks_few : (v : Volume) (p : Part) → part_blocks v p ≤ 2 * length p.entries
blocks_few v p = by (is_first p) (runs_few (room v) (superblock_weight v.attributes) 1 p.entries) (runs_few (room v) 0 0 p.entries)
  where
    by : (t : Bool) → length (runs_after weight (room v) (superblock_weight v.attributes) 1 p.entries) ≤ length p.entries + 1
        → length (runs_after weight (room v) 0 0 p.entries) ≤ length p.entries + 1
        → 2 * (length (if t then runs_after weight (room v) (superblock_weight v.attributes) 1 p.entries else runs_after weight
        (room v) 0 0 p.entries) - 1) ≤ 2 * length p.entries
    by true x y = omega (arith, x)
    by false x y = omega (arith, y)

abbrev IsFew : ℕ → Part → Type 0
IsFew m p = length p.entries ≤ m

dirty_few : (v : Volume) (ps : List Part) → All (IsFew 65537) ps → sum_by (part_blocks v) (filter (λ p. p.dirty) ps) ≤ 131074 * marks ps
dirty_few v [] few = omega arith
dirty_few v (p ∷ ps) few = by p.dirty refl (dirty_few v ps (All-tail (IsFew 65537) p ps few)) (All-head (IsFew 65537) p ps few)
  where
    by : (t : Bool) → p.dirty ≡ t → sum_by (part_blocks v) (filter (λ q. q.dirty) ps) ≤ 131074 * marks ps → length p.entries ≤ 65537
        → sum_by (part_blocks v) (if t then p ∷ filter (λ q. q.dirty) ps else filter (λ q. q.dirty) ps) ≤ 131074 * marks (p ∷ ps)
    by true is later here =
        omega (
          arith,
          later,
          here,
          blocks_few v p,
          sum_by-cons (part_blocks v) p (filter (λ q. q.dirty) ps),
          sum_by-cons (λ (q : Part). cond {A = ℕ} q.dirty 1 0) p ps,
          ap (λ (t : Bool). cond {A = ℕ} t 1 0) is,
        )
    by false is later here = omega (
      arith,
      later,
      sum_by-cons (λ (q : Part). cond {A = ℕ} q.dirty 1 0) p ps,
      ap (λ (t : Bool). cond {A = ℕ} t 1 0) is,
    )

-- ---- contents

pub least_few : (size len n steps : ℕ) → least_from size len n steps ≤ n + steps
unfolding least_from
least_few size len n zero = omega arith
least_few size len n (suc steps) = by (nat_le len (file_room size n)) (least_few size len (n + 1) steps)
  where
    by : (t : Bool) → least_from size len (n + 1) steps ≤ n + 1 + steps
        → (if t then n else least_from size len (n + 1) steps) ≤ n + suc steps
    by true h = omega arith
    by false h = omega (arith, h)

pub least_within : (size len : ℕ) → least_blocks size len ≤ len
unfolding least_blocks
least_within size len = omega (arith, least_few size len 0 len)

-- ---- how many entries parts have

-- parts of at most m entries, directory by directory
abbrev AreFew : ℕ → List Directory → Type 0
AreFew m = All (λ d. All (IsFew m) (parts d))

wide : (m n : ℕ) (ps : List Part) → m ≤ n → All (IsFew m) ps → All (IsFew n) ps
wide m n [] le few = All-nil (IsFew n)
wide m n (p ∷ ps) le few = All-cons (IsFew n) p ps (omega (arith, le, All-head (IsFew m) p ps few))
    (wide m n ps le (All-tail (IsFew m) p ps few))

all_wide : (m n : ℕ) (ds : List Directory) → m ≤ n → AreFew m ds → AreFew n ds
all_wide m n [] le few = All-nil (λ (d : Directory). All (IsFew n) (parts d))
all_wide m n (d ∷ ds) le few =
    All-cons (λ (x : Directory). All (IsFew n) (parts x)) d ds (wide m n (parts d) le
    (All-head (λ (x : Directory). All (IsFew m) (parts x)) d ds few))
    (all_wide m n ds le (All-tail (λ (x : Directory). All (IsFew m) (parts x)) d ds few))

halves : (m : ℕ) (ps qs : List Part) → All (IsFew m) (ps ++ qs) → All (IsFew m) ps × All (IsFew m) qs
halves m [] qs few = (All-nil (IsFew m), few)
halves m (p ∷ ps) qs few =
    let rest = halves m ps qs (All-tail (IsFew m) p (ps ++ qs) few) in
    (All-cons (IsFew m) p ps (All-head (IsFew m) p (ps ++ qs) few) rest.0, rest.1)

by_directories : (m : ℕ) (ds : List Directory) → All (IsFew m) (thread ds) → AreFew m ds
by_directories m [] few = All-nil (λ (d : Directory). All (IsFew m) (parts d))
by_directories m (d ∷ ds) few =
    let both = halves m (parts d) (thread ds) few in
    All-cons (λ (x : Directory). All (IsFew m) (parts x)) d ds both.0 (by_directories m ds both.1)

in_thread : (m : ℕ) (ds : List Directory) → AreFew m ds → All (IsFew m) (thread ds)
in_thread m [] few = All-nil (IsFew m)
in_thread m (d ∷ ds) few =
    All-append (IsFew m) (parts d) (thread ds) (All-head (λ (x : Directory). All (IsFew m) (parts x)) d ds few)
    (in_thread m ds (All-tail (λ (x : Directory). All (IsFew m) (parts x)) d ds few))

-- ---- in a directory

place_length : (e : Entry) (es : List Entry) → length (place e es) ≡ length es + 1
unfolding place
place_length e [] = refl
place_length e (f ∷ fs) = by (precedes e.name f.name) (place_length e fs)
  where
    by : (t : Bool) → length (place e fs) ≡ length fs + 1 → length (if t then e ∷ f ∷ fs else f ∷ place e fs) ≡ length (f ∷ fs) + 1
    by true h = omega arith
    by false h = omega (arith, h)

link_few : (m : ℕ) (e : Entry) (p : Part) (ps : List Part) → All (IsFew m) (p ∷ ps) → All (IsFew (m + 1)) (parts (link_parts e p ps))
unfolding link_parts
link_few m e p [] few =
    All-cons (IsFew (m + 1)) (touch true (place e) p) [] (omega (arith, place_length e p.entries, All-head (IsFew m) p [] few))
    (All-nil (IsFew (m + 1)))
link_few m e p (q ∷ ps) few = go (list_any (λ f. precedes e.name f.name) p.entries) (link_few m e q ps (All-tail (IsFew m) p (q ∷ ps) few))
  where
    go : (b : Bool) → All (IsFew (m + 1)) (parts (link_parts e q ps))
        → All (IsFew (m + 1)) (parts (if b then record { first = touch true (place e) p; more = q ∷ ps } else behind p (link_parts e q ps)))
    go true later =
        All-cons (IsFew (m + 1)) (touch true (place e) p) (q ∷ ps) (omega
        (arith, place_length e p.entries, All-head (IsFew m) p (q ∷ ps) few))
        (wide m (m + 1) (q ∷ ps) (omega arith) (All-tail (IsFew m) p (q ∷ ps) few))
    go false later = All-cons (IsFew (m + 1)) p (parts (link_parts e q ps)) (omega (arith, All-head (IsFew m) p (q ∷ ps) few)) later

each_few : (m : ℕ) (set : Part → Bool) (f : List Entry → List Entry) (ps : List Part) → ((es : List Entry) → length (f es) ≤ length es)
    → All (IsFew m) ps → All (IsFew m) (map (λ p. touch (set p) f p) ps)
each_few m set f [] less few = All-nil (IsFew m)
each_few m set f (p ∷ ps) less few =
    All-cons (IsFew m) (touch (set p) f p) (map (λ q. touch (set q) f q) ps) (omega (arith, less p.entries, All-head (IsFew m) p ps few))
    (each_few m set f ps less (All-tail (IsFew m) p ps few))

without_less : (n : Name) (es : List Entry) → length (without n es) ≤ length es
without_less n [] = omega arith
without_less n (e ∷ es) = by (not (is_named n e)) (without_less n es)
  where
    by : (t : Bool) → length (without n es) ≤ length es → length (if t then e ∷ without n es else without n es) ≤ length (e ∷ es)
    by true h = omega (arith, h)
    by false h = omega (arith, h)

changed_less : (n : Name) (f : Entry → Entry) (es : List Entry) → length (changed n f es) ≤ length es
changed_less n f [] = omega arith
changed_less n f (e ∷ es) = omega (arith, changed_less n f es)

dropped_few : (m : ℕ) (goes : Part → Bool) (p : Part) (ps : List Part) → All (IsFew m) (p ∷ ps)
    → All (IsFew m) (parts (drop_later goes p ps))
unfolding drop_later
dropped_few m goes p [] few = few
dropped_few m goes p (q ∷ ps) few = go (goes q) (dropped_few m goes (taking_up q.delta p) ps gone) (dropped_few m goes q ps rest)
  where
    first : IsFew m p
    first = All-head (IsFew m) p (q ∷ ps) few

    rest : All (IsFew m) (q ∷ ps)
    rest = All-tail (IsFew m) p (q ∷ ps) few

    gone : All (IsFew m) (taking_up q.delta p ∷ ps)
    gone = All-cons (IsFew m) (taking_up q.delta p) ps first (All-tail (IsFew m) q ps rest)

    go : (b : Bool) → All (IsFew m) (parts (drop_later goes (taking_up q.delta p) ps)) → All (IsFew m) (parts (drop_later goes q ps))
        → All (IsFew m) (parts (if b then drop_later goes (taking_up q.delta p) ps else behind p (drop_later goes q ps)))
    go true without_it later = without_it
    go false without_it later = All-cons (IsFew m) p (parts (drop_later goes q ps)) first later

last_few : (m : ℕ) (p : Part) (ps : List Part) → All (IsFew m) (p ∷ ps) → All (IsFew m) (parts (touch_last_of p ps))
unfolding touch_last_of
last_few m p [] few = All-cons (IsFew m) (touch true (λ es. es) p) [] (All-head (IsFew m) p [] few) (All-nil (IsFew m))
last_few m p (q ∷ ps) few = All-cons (IsFew m) p (parts (touch_last_of q ps)) (All-head (IsFew m) p (q ∷ ps) few)
    (last_few m q ps (All-tail (IsFew m) p (q ∷ ps) few))

absorb_few : (m delta : ℕ) (p : Part) (ps : List Part) → All (IsFew m) (p ∷ ps) → All (IsFew m) (parts (absorb_in delta p ps))
unfolding absorb_in
absorb_few m delta p [] few = All-cons (IsFew m) (taking_up delta p) [] (All-head (IsFew m) p [] few) (All-nil (IsFew m))
absorb_few m delta p (q ∷ ps) few = All-cons (IsFew m) p (parts (absorb_in delta q ps)) (All-head (IsFew m) p (q ∷ ps) few)
    (absorb_few m delta q ps (All-tail (IsFew m) p (q ∷ ps) few))

-- ---- in a volume

in_few : (m n : ℕ) (k : Pair) (f : Directory → Directory) (ds : List Directory) → m ≤ n
    → ((d : Directory) → All (IsFew m) (parts d) → All (IsFew n) (parts (f d))) → AreFew m ds → AreFew n (in_directory k f ds)
in_few m n k f [] le keeps few = All-nil (λ (d : Directory). All (IsFew n) (parts d))
in_few m n k f (d ∷ ds) le keeps few =
    All-cons (λ (x : Directory). All (IsFew n) (parts x)) (if begins_at k d then f d else d) (in_directory k f ds)
    (by (begins_at k d) (All-head (λ (x : Directory). All (IsFew m) (parts x)) d ds few))
    (in_few m n k f ds le keeps (All-tail (λ (x : Directory). All (IsFew m) (parts x)) d ds few))
  where
    by : (t : Bool) → All (IsFew m) (parts d) → All (IsFew n) (parts (if t then f d else d))
    by true here = keeps d here
    by false here = wide m n (parts d) le here

all_link : (m : ℕ) (k : Pair) (e : Entry) (ds : List Directory) → AreFew m ds → AreFew (m + 1) (link k e ds)
all_link m k e ds few = in_few m (m + 1) k (link_in e) ds (omega arith) (λ d. link_few m e d.first d.more) few

all_unlink : (m : ℕ) (k : Pair) (n : Name) (ds : List Directory) → AreFew m ds → AreFew m (unlink k n ds)
all_unlink m k n ds few = in_few m m k (unlink_in n) ds (omega arith)
    (λ d few. each_few m (has_name n) (without n) (parts (dropped n d)) (without_less n) (dropped_few m (has_only n) d.first d.more few)) few

all_change : (m : ℕ) (k : Pair) (n : Name) (f : Entry → Entry) (ds : List Directory) → AreFew m ds → AreFew m (change k n f ds)
all_change m k n f ds few = in_few m m k (change_in n f) ds (omega arith)
    (λ d. each_few m (has_name n) (changed n f) (parts d) (changed_less n f)) few

all_add : (m : ℕ) (k : Pair) (new : Directory) (ds : List Directory) → All (IsFew m) (parts new) → AreFew m ds
    → AreFew m (add_after k new ds)
unfolding add_after
all_add m k new [] bare few = few
all_add m k new (d ∷ ds) bare few =
    go (begins_at k d) (all_add m k new ds bare rest)
  where
    rest : AreFew m ds
    rest = All-tail (λ (x : Directory). All (IsFew m) (parts x)) d ds few

    here : All (IsFew m) (parts d)
    here = All-head (λ (x : Directory). All (IsFew m) (parts x)) d ds few

    go : (b : Bool) → AreFew m (add_after k new ds) → AreFew m (if b then touch_last d ∷ new ∷ ds else d ∷ add_after k new ds)
    go true later =
        All-cons (λ (x : Directory). All (IsFew m) (parts x)) (touch_last d) (new ∷ ds) (last_few m d.first d.more here)
        (All-cons (λ (x : Directory). All (IsFew m) (parts x)) new ds bare rest)
    go false later = All-cons (λ (x : Directory). All (IsFew m) (parts x)) d (add_after k new ds) here later

all_take : (m : ℕ) (k : Pair) (d : Directory) (ds : List Directory) → AreFew m (d ∷ ds) → AreFew m (take_out k d ds)
unfolding take_out
all_take m k d [] few = few
all_take m k d (e ∷ ds) few = go (begins_at k e) (all_take m k e ds rest)
  where
    rest : AreFew m (e ∷ ds)
    rest = All-tail (λ (x : Directory). All (IsFew m) (parts x)) d (e ∷ ds) few

    here : All (IsFew m) (parts d)
    here = All-head (λ (x : Directory). All (IsFew m) (parts x)) d (e ∷ ds) few

    go : (b : Bool) → AreFew m (take_out k e ds) → AreFew m (if b then absorb d e ∷ ds else d ∷ take_out k e ds)
    go true later =
        All-cons (λ (x : Directory). All (IsFew m) (parts x)) (absorb d e) ds (absorb_few m (delta_of (parts e)) d.first d.more here)
        (All-tail (λ (x : Directory). All (IsFew m) (parts x)) e ds rest)
    go false later = All-cons (λ (x : Directory). All (IsFew m) (parts x)) d (take_out k e ds) here later

all_drop : (m : ℕ) (o : Option Pair) (ds : List Directory) → AreFew m ds → AreFew m (drop_target o ds)
all_drop m None ds few = few
all_drop m (Some k) [] few = few
all_drop m (Some k) (d ∷ ds) few = all_take m k d ds few

all_touch : (m : ℕ) (ds : List Directory) → AreFew m ds → AreFew m (touch_first ds)
all_touch m [] few = few
all_touch m (d ∷ ds) few =
    let first : Part = record { pair = d.first.pair; entries = d.first.entries; delta = d.first.delta; dirty = true } in
    let here : All (IsFew m) (parts d) = All-head (λ (x : Directory). All (IsFew m) (parts x)) d ds few in
    All-cons (λ (x : Directory). All (IsFew m) (parts x)) (record { first = first; more = d.more }) ds
    (All-cons (IsFew m) first d.more (All-head (IsFew m) d.first d.more here) (All-tail (IsFew m) d.first d.more here))
    (All-tail (λ (x : Directory). All (IsFew m) (parts x)) d ds few)

-- ---- the commands

set_entries : (m : ℕ) (v : Volume) (f : Attributes → Attributes) (h : Option (Pair × Name)) → AreFew m v.directories
    → AreFew (m + 1) (set_attributes v f h).directories
set_entries m v f None few = all_wide m (m + 1) (touch_first v.directories) (omega arith) (all_touch m v.directories few)
set_entries m v f (Some h) few = all_wide m (m + 1) (change h.0 h.1 (with_entry_attributes f) v.directories) (omega arith)
    (all_change m h.0 h.1 (with_entry_attributes f) v.directories few)

make_entries : (m : ℕ) (v : Volume) (pair : Pair) (h : Option (Pair × Name)) → AreFew m v.directories
    → AreFew (m + 1) (make_directory v pair h).directories
make_entries m v pair None few = all_wide m (m + 1) v.directories (omega arith) few
make_entries m v pair (Some h) few =
    all_add (m + 1) h.0 (empty_directory pair) (link h.0 (new_entry h.1 (Directory_at pair)) v.directories)
    (All-cons (IsFew (m + 1)) (empty_directory pair).first [] (omega arith) (All-nil (IsFew (m + 1))))
    (all_link m h.0 (new_entry h.1 (Directory_at pair)) v.directories few)

put_entries : (m : ℕ) (v : Volume) (body : Body) (h : Option (Pair × Name)) (old : Option Entry) → AreFew m v.directories
    → AreFew (m + 1) (put_file v body h old).directories
put_entries m v body None old few = all_wide m (m + 1) v.directories (omega arith) few
put_entries m v body (Some h) None few = all_link m h.0 (new_entry h.1 body) v.directories few
put_entries m v body (Some h) (Some e) few = all_wide m (m + 1) (change h.0 h.1 (with_body body) v.directories) (omega arith)
    (all_change m h.0 h.1 (with_body body) v.directories few)

remove_entries : (m : ℕ) (v : Volume) (h : Option (Pair × Name)) (old : Option Entry) → AreFew m v.directories
    → AreFew (m + 1) (remove_entry v h old).directories
remove_entries m v None old few = all_wide m (m + 1) v.directories (omega arith) few
remove_entries m v (Some h) None few = all_wide m (m + 1) v.directories (omega arith) few
remove_entries m v (Some h) (Some e) few =
    all_wide m (m + 1) (drop_target (target e) (unlink h.0 h.1 v.directories)) (omega arith)
    (all_drop m (target e) (unlink h.0 h.1 v.directories) (all_unlink m h.0 h.1 v.directories few))

move_entries : (m : ℕ) (v : Volume) (from to : Option (Pair × Name)) (old : Option Entry) → AreFew m v.directories
    → AreFew (m + 1) (move_entry v from to old).directories
move_entries m v None to old few = all_wide m (m + 1) v.directories (omega arith) few
move_entries m v (Some h) None old few = all_wide m (m + 1) v.directories (omega arith) few
move_entries m v (Some h) (Some g) None few = all_wide m (m + 1) v.directories (omega arith) few
move_entries m v (Some h) (Some g) (Some e) few = all_link m g.0 (renamed g.1 e) (unlink h.0 h.1 v.directories)
    (all_unlink m h.0 h.1 v.directories few)

edited_entries : (m : ℕ) (v : Volume) (c : Command) → AreFew m v.directories → AreFew (m + 1) (edited v c nothing).directories
edited_entries m v (Mkdir p) few = make_entries m v nothing.pair (parent_of v p) few
edited_entries m v (Put p bytes most) few = put_entries m v (new_body v nothing bytes most) (parent_of v p) (entry_at v p) few
edited_entries m v (Rm p) few = remove_entries m v (parent_of v p) (entry_at v p) few
edited_entries m v (Mv p q) few = move_entries m v (parent_of v p) (parent_of v q) (entry_at v p) few
edited_entries m v (SetAttr p k value) few = set_entries m v (set_attribute k value) (parent_of v p) few
edited_entries m v (RmAttr p k) few = set_entries m v (remove_attribute k) (parent_of v p) few
edited_entries m v (Grow n) few = set_entries m v (λ a. a) None few

-- a new directory's part is the third one
make_marks : (v : Volume) (p : Path) (pair : Pair) → IsSound v → IsClean v → (h : Option (Pair × Name)) → parent_of v p ≡ h
    → marks (thread (make_directory v pair h).directories) ≤ 3
make_marks v p pair sound clean None is = omega (arith, unmarked (thread v.directories) clean)
make_marks v p pair sound clean (Some h) is =
    let e : Entry = new_entry h.1 (Directory_at pair) in
    let one : marks (parts (empty_directory pair)) ≡ 1 = refl in
    omega (
      arith,
      marks_add_after h.0 (empty_directory pair) (link h.0 e v.directories),
      marks_link h.0 e v.directories (parent_once v p h sound is),
      unmarked (thread v.directories) clean,
      one,
    )

edited_marks : NamesAreOrdered → (v : Volume) (c : Command) → IsSound v → IsClean v → marks (thread (edited v c nothing).directories) ≤ 3
edited_marks ordered v (Mkdir p) sound clean = make_marks v p nothing.pair sound clean (parent_of v p) refl
edited_marks ordered v (Put p bytes most) sound clean = omega (
  arith,
  put_few v p (new_body v nothing bytes most) ordered sound clean (parent_of v p)
      (entry_at v p) refl,
)
edited_marks ordered v (Rm p) sound clean = omega (arith, remove_few v p ordered sound clean (parent_of v p) (entry_at v p) refl)
edited_marks ordered v (Mv p q) sound clean =
    omega (
      arith,
      move_few v p q ordered sound clean (parent_of v p) (parent_of v q) (entry_at v p) refl refl refl
          (λ h e is here. sym (stands_at_parent v p h.0 h.1 is) ∙ here),
    )
edited_marks ordered v (SetAttr p k value) sound clean = omega (
  arith,
  set_few v p (set_attribute k value) ordered sound clean (parent_of v p) refl,
)
edited_marks ordered v (RmAttr p k) sound clean = omega (arith, set_few v p (remove_attribute k) ordered sound clean (parent_of v p) refl)
edited_marks ordered v (Grow n) sound clean = omega (arith, marks_touch_first v.directories, unmarked (thread v.directories) clean)

-- ---- the sum

stored_few : (v : Volume) (bytes : List ℕ) (t : Bool) → length bytes ≤ 2147483647
    → (if t then 0 else least_blocks v.size (length bytes)) ≤ 2147483647
stored_few v bytes true h = omega arith
stored_few v bytes false h = omega (arith, h, least_within v.size (length bytes))

data_few : (v : Volume) (c : Command) → IsLimits v.limits → first_refusal (checks v c) ≡ None → data_blocks v c ≤ 2147483647
data_few v (Mkdir p) limits passes = omega arith
data_few v (Put p bytes most) limits passes =
    let below = first_passes (refuse_if (is_root p) IsRoot) _ passes in
    let walk = first_passes (walk_refusal (tree v) [] p) _ below.1 in
    let file = first_passes (refuse_if (is_directory (tree v p)) IsADirectory) _ walk.1 in
    let short = first_passes (refuse_if (is_none (tree v p) && nat_lt v.limits.name (last_length p)) NameTooLong) _ file.1 in
    let small = first_passes (refuse_if (nat_lt v.limits.file (length bytes)) FileTooLarge) _ short.1 in
    stored_few v bytes (nat_le (length bytes) (inline_limit v.size most))
    (omega (
      arith,
      limits.file.1,
      ltb-false v.limits.file (length bytes) (test_passes
          (nat_lt v.limits.file (length bytes)) FileTooLarge small.0),
    ))
data_few v (Rm p) limits passes = omega arith
data_few v (Mv p q) limits passes = omega arith
data_few v (SetAttr p k value) limits passes = omega arith
data_few v (RmAttr p k) limits passes = omega arith
data_few v (Grow n) limits passes = omega arith

directory_few : (c : Command) → directory_blocks c ≤ 2
directory_few (Mkdir p) = omega arith
directory_few (Put p bytes most) = omega arith
directory_few (Rm p) = omega arith
directory_few (Mv p q) = omega arith
directory_few (SetAttr p k value) = omega arith
directory_few (RmAttr p k) = omega arith
directory_few (Grow n) = omega arith

pub needs_are_small : NamesAreOrdered → NeedsAreSmall
needs_are_small ordered v c sound clean limits few passes =
    let w : Volume = edited v c nothing in
    let entries_few : All (IsFew 65537) (thread w.directories) = in_thread 65537 w.directories
    (edited_entries 65536 v c (by_directories 65536 v.directories few)) in
    omega (
      arith,
      data_few v c limits passes,
      directory_few c,
      dirty_few w (thread w.directories) entries_few,
      edited_marks ordered v c sound clean,
    )
