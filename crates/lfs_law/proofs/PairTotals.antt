-- The pairs of a volume's parts after a command: those that there were, and a new directory's.
use Rattle.std.proofs.Common.{◌≡◌, ℕ, ◌+◌, ◌≤◌, Bool, true, false, List, [], ◌∷◌, refl, ap, sym, ◌∙◌, arith, Option, Some, None}
use Rattle.std.specs.Prelude.{if◌then◌else◌, sum_by}
use Rattle.std.proofs.lemmas.List.Sums.{sum_by-cons, sum_by-append}
use Rattle.lfs_meta.specs.Name.{Name}
use Rattle.lfs_meta.specs.Attribute.{Attributes, set_attribute, remove_attribute}
use Rattle.lfs_meta.specs.Body.{Pair}
use Rattle.lfs_fs.specs.Entry.{Body, Directory_at, Entry, target}
use Rattle.lfs_fs.specs.Directory.{Part, Directory, parts, begins_at, thread}
use Rattle.lfs_fs.specs.Volume.{Volume}
use Rattle.lfs_fs.specs.Tree.{entry_at}
use Rattle.lfs_command.specs.DirectoryEdit.{link_in, has_only, unlink_in, change_in, touch_last, absorb}
use Rattle.lfs_command.specs.ThreadEdit.{in_directory, link, unlink, change, add_after, take_out, drop_directory, touch_first}
use Rattle.lfs_command.specs.Command.{Command, Mkdir, Put, Rm, Mv, SetAttr, RmAttr, Grow}
use Rattle.lfs_command.specs.Supplies.{Supplies, new_body}
use Rattle.lfs_command.specs.Parent.{parent_of}
use Rattle.lfs_command.specs.Edited.{with_body, with_entry_attributes, renamed, new_entry, empty_directory, set_attributes, make_directory}
use Rattle.lfs_command.specs.Edited.{put_file, drop_target, remove_entry, move_entry, edited}
use Rattle.lfs_law.proofs.DirectoryEdits.{KeepsParts, pairs, keeps_link, dropped, pairs_unlink, sum_dropped, keeps_change}
use Rattle.lfs_law.proofs.DirectoryEdits.{keeps_touch_last, pairs_absorb}
use Rattle.lfs_law.proofs.OutlineRoom.{sum_over}

-- a sum over the pairs of parts
abbrev pub parts_total : (Pair → ℕ) → List Part → ℕ
parts_total g ps = sum_by (λ p. g p.pair) ps

-- over those of all directories
abbrev pub total : (Pair → ℕ) → List Directory → ℕ
total g ds = parts_total g (thread ds)

pub total_cons : (g : Pair → ℕ) (d : Directory) (ds : List Directory) → total g (d ∷ ds) ≡ parts_total g (parts d) + total g ds
total_cons g d ds = sum_by-append (λ (p : Part). g p.pair) (parts d) (thread ds)

-- parts of the same pairs have the same sum
pub same_pairs : (g : Pair → ℕ) (ps qs : List Part) → pairs ps ≡ pairs qs → parts_total g ps ≡ parts_total g qs
same_pairs g ps qs same =
    sym (sum_over (λ (p : Part). g p.pair) g (λ (p : Part). p.pair) (λ p. refl) ps) ∙ ap (sum_by g) same
    ∙ sum_over (λ (p : Part). g p.pair) g (λ (p : Part). p.pair) (λ p. refl) qs

-- ---- edits of directories

-- f leaves each directory's pairs and delta
abbrev KeepsAllParts : (Directory → Directory) → Type 0
KeepsAllParts f = (d : Directory) → KeepsParts d (f d)

in_by : (g : Pair → ℕ) (f : Directory → Directory) → KeepsAllParts f → (d : Directory) (t : Bool)
    → parts_total g (parts (if t then f d else d)) ≡ parts_total g (parts d)
in_by g f keeps d true = same_pairs g (parts (f d)) (parts d) (keeps d).pairs
in_by g f keeps d false = refl

in_total : (g : Pair → ℕ) (k : Pair) (f : Directory → Directory) → KeepsAllParts f → (ds : List Directory)
    → total g (in_directory k f ds) ≡ total g ds
in_total g k f keeps [] = refl
in_total g k f keeps (d ∷ ds) =
    omega (
      arith,
      total_cons g (if begins_at k d then f d else d) (in_directory k f ds),
      total_cons g d ds,
      in_by g f keeps d (begins_at k d),
      in_total g k f keeps ds,
    )

pub link_total : (g : Pair → ℕ) (k : Pair) (e : Entry) (ds : List Directory) → total g (link k e ds) ≡ total g ds
link_total g k e ds = in_total g k (link_in e) (keeps_link e) ds

-- where later parts leave it is less
unlink_parts : (g : Pair → ℕ) (n : Name) (d : Directory) → parts_total g (parts (unlink_in n d)) ≤ parts_total g (parts d)
unlink_parts g n d = omega (
  arith,
  same_pairs g (parts (unlink_in n d)) (parts (dropped n d)) (pairs_unlink n d),
  sum_dropped (λ (p : Part). g p.pair) (λ delta p. refl) (has_only n) d.first d.more,
)

unlink_total : (g : Pair → ℕ) (k : Pair) (n : Name) (ds : List Directory) → total g (unlink k n ds) ≤ total g ds
unlink_total g k n [] = omega arith
unlink_total g k n (d ∷ ds) =
    omega (
      arith,
      total_cons g (if begins_at k d then unlink_in n d else d) (unlink k n ds),
      total_cons g d ds,
      by (begins_at k d),
      unlink_total g k n ds,
    )
  where
    by : (t : Bool) → parts_total g (parts (if t then unlink_in n d else d)) ≤ parts_total g (parts d)
    by true = unlink_parts g n d
    by false = omega arith

change_total : (g : Pair → ℕ) (k : Pair) (n : Name) (f : Entry → Entry) (ds : List Directory) → total g (change k n f ds) ≡ total g ds
change_total g k n f ds = in_total g k (change_in n f) (keeps_change n f) ds

touch_total : (g : Pair → ℕ) (ds : List Directory) → total g (touch_first ds) ≡ total g ds
touch_total g [] = refl
touch_total g (d ∷ ds) =
    let first : Part = record { pair = d.first.pair; entries = d.first.entries; delta = d.first.delta; dirty = true } in
    omega (
      arith,
      total_cons g (record { first = first; more = d.more }) ds,
      total_cons g d ds,
      sum_by-cons (λ (p : Part). g p.pair) first d.more,
      sum_by-cons (λ (p : Part). g p.pair) d.first d.more,
    )

pub last_total : (g : Pair → ℕ) (d : Directory) → parts_total g (parts (touch_last d)) ≡ parts_total g (parts d)
last_total g d = same_pairs g (parts (touch_last d)) (parts d) (keeps_touch_last d).pairs

add_total : (g : Pair → ℕ) (k : Pair) (new : Directory) (ds : List Directory)
    → total g (add_after k new ds) ≤ total g ds + parts_total g (parts new)
unfolding add_after
add_total g k new [] = omega arith
add_total g k new (d ∷ ds) = by (begins_at k d) (add_total g k new ds)
  where
    by : (t : Bool) → total g (add_after k new ds) ≤ total g ds + parts_total g (parts new)
        → total g (if t then touch_last d ∷ new ∷ ds else d ∷ add_after k new ds) ≤ total g (d ∷ ds) + parts_total g (parts new)
    by true rest = omega (arith, total_cons g (touch_last d) (new ∷ ds), total_cons g new ds, total_cons g d ds, last_total g d)
    by false rest = omega (arith, rest, total_cons g d (add_after k new ds), total_cons g d ds)

take_total : (g : Pair → ℕ) (k : Pair) (d : Directory) (ds : List Directory) → total g (take_out k d ds) ≤ total g (d ∷ ds)
unfolding take_out
take_total g k d [] = omega arith
take_total g k d (e ∷ ds) = by (begins_at k e) (take_total g k e ds)
  where
    by : (t : Bool) → total g (take_out k e ds) ≤ total g (e ∷ ds) → total g (if t then absorb d e ∷ ds else d ∷ take_out k e ds)
        ≤ total g (d ∷ e ∷ ds)
    by true rest = omega (
      arith,
      total_cons g (absorb d e) ds,
      total_cons g d (e ∷ ds),
      total_cons g e ds,
      same_pairs g (parts (absorb d e)) (parts d) (pairs_absorb d e),
    )
    by false rest = omega (arith, rest, total_cons g d (take_out k e ds), total_cons g d (e ∷ ds))

drop_total : (g : Pair → ℕ) (k : Pair) (ds : List Directory) → total g (drop_directory k ds) ≤ total g ds
drop_total g k [] = omega arith
drop_total g k (d ∷ ds) = take_total g k d ds

-- ---- the commands

set_total : (g : Pair → ℕ) (v : Volume) (f : Attributes → Attributes) (h : Option (Pair × Name))
    → total g (set_attributes v f h).directories ≤ total g v.directories
set_total g v f None = omega (arith, touch_total g v.directories)
set_total g v f (Some h) = omega (arith, change_total g h.0 h.1 (with_entry_attributes f) v.directories)

make_total : (g : Pair → ℕ) (v : Volume) (pair : Pair) (h : Option (Pair × Name))
    → total g (make_directory v pair h).directories ≤ total g v.directories + g pair
make_total g v pair None = omega arith
make_total g v pair (Some h) =
    let e : Entry = new_entry h.1 (Directory_at pair) in
    let new : Directory = empty_directory pair in
    let one : parts_total g (parts new) ≡ g pair = omega (arith, sum_by-cons (λ (p : Part). g p.pair) new.first []) in
    omega (arith, one, add_total g h.0 new (link h.0 e v.directories), link_total g h.0 e v.directories)

put_total : (g : Pair → ℕ) (v : Volume) (body : Body) (h : Option (Pair × Name)) (old : Option Entry)
    → total g (put_file v body h old).directories ≤ total g v.directories
put_total g v body None old = omega arith
put_total g v body (Some h) None = omega (arith, link_total g h.0 (new_entry h.1 body) v.directories)
put_total g v body (Some h) (Some e) = omega (arith, change_total g h.0 h.1 (with_body body) v.directories)

dropped_total : (g : Pair → ℕ) (o : Option Pair) (ds : List Directory) → total g (drop_target o ds) ≤ total g ds
dropped_total g None ds = omega arith
dropped_total g (Some k) ds = drop_total g k ds

remove_total : (g : Pair → ℕ) (v : Volume) (h : Option (Pair × Name)) (old : Option Entry)
    → total g (remove_entry v h old).directories ≤ total g v.directories
remove_total g v None old = omega arith
remove_total g v (Some h) None = omega arith
remove_total g v (Some h) (Some e) = omega (
  arith,
  dropped_total g (target e) (unlink h.0 h.1 v.directories),
  unlink_total g h.0 h.1 v.directories,
)

move_total : (g : Pair → ℕ) (v : Volume) (from to : Option (Pair × Name)) (old : Option Entry)
    → total g (move_entry v from to old).directories ≤ total g v.directories
move_total g v None to old = omega arith
move_total g v (Some h) None old = omega arith
move_total g v (Some h) (Some k) None = omega arith
move_total g v (Some h) (Some k) (Some e) = omega (
  arith,
  link_total g k.0 (renamed k.1 e) (unlink h.0 h.1 v.directories),
  unlink_total g h.0 h.1 v.directories,
)

-- what a new directory adds
abbrev pub made_total : (Pair → ℕ) → Command → Supplies → ℕ
made_total g (Mkdir p) s = g s.pair
made_total g (Put p bytes most) s = 0
made_total g (Rm p) s = 0
made_total g (Mv p q) s = 0
made_total g (SetAttr p k value) s = 0
made_total g (RmAttr p k) s = 0
made_total g (Grow n) s = 0

pub edited_total : (g : Pair → ℕ) (v : Volume) (c : Command) (s : Supplies)
    → total g (edited v c s).directories ≤ total g v.directories + made_total g c s
edited_total g v (Mkdir p) s = make_total g v s.pair (parent_of v p)
edited_total g v (Put p bytes most) s = omega (arith, put_total g v (new_body v s bytes most) (parent_of v p) (entry_at v p))
edited_total g v (Rm p) s = omega (arith, remove_total g v (parent_of v p) (entry_at v p))
edited_total g v (Mv p q) s = omega (arith, move_total g v (parent_of v p) (parent_of v q) (entry_at v p))
edited_total g v (SetAttr p k value) s = omega (arith, set_total g v (set_attribute k value) (parent_of v p))
edited_total g v (RmAttr p k) s = omega (arith, set_total g v (remove_attribute k) (parent_of v p))
edited_total g v (Grow n) s = omega (arith, touch_total g v.directories)
