-- The rows of a mounted image at a path and below are those of its tree.
use Rattle.std.proofs.Common.{◌≡◌, Bool, true, false, List, [], ◌∷◌, ◌++◌, Option, Some, None, All, refl, ap, sym, ◌∙◌, subst, inl, inr}
use Rattle.std.specs.Bool.{Decides}
use Rattle.std.specs.Prelude.{Contains, if◌then◌else◌, is_some}
use Rattle.std.specs.List.{AllByRecursion}
use Rattle.std.specs.Option.{option_map}
use Rattle.std.proofs.lemmas.List.Elements.{All-cons, All-contains_itself, All-head, All-nil, All-tail, All-weaker, recursion_from_All}
use Rattle.std.proofs.lemmas.Option.{none-some, same_Some}
use Rattle.std.proofs.lemmas.Slice.Eq.{bytes_eq-Decides}
use Rattle.lfs_block.specs.Disk.{Disk, IsDisk}
use Rattle.lfs_meta.specs.Body.{Pair}
use Rattle.lfs_meta.specs.Name.{Name}
use Rattle.lfs_fs.specs.Entry.{Body, Chain, Directory_at, Entry, Inline, body_target, target}
use Rattle.lfs_fs.specs.Mounted.{IsMountOf, MountedValue}
use Rattle.lfs_fs.specs.NameOrder.{precedes}
use Rattle.lfs_fs.specs.Outlined.{outlined_entry}
use Rattle.lfs_fs.specs.Path.{Path}
use Rattle.lfs_fs.specs.Row.{Row, RowsRise, path_precedes}
use Rattle.lfs_fs.specs.RowShown.{RowsShowTheTree, shown_node}
use Rattle.lfs_fs.specs.Tree.{Node, entry_at, node, node_of, tree}
use Rattle.lfs_fs.specs.Volume.{Volume}
use Rattle.lfs_fs.proofs.ContainsLemmas.{contains_cases, contains_none}
use Rattle.lfs_fs.proofs.EntryAtLemmas.{some_entry, stands_below}
use Rattle.lfs_fs.proofs.OutlinedLemmas.{outlined_at}
use Rattle.lfs_command.specs.PathMap.{below, same_path}
use Rattle.lfs_command.specs.Verdict.{is_directory}
use Rattle.lfs_law.proofs.PathMapLemmas.{below-append, below_none, below_some, same_path_decides}
use Rattle.lfs_sync.specs.Shown.{Shown, ShownRise, held_by, held_of, shown_at}
use Rattle.lfs_sync.specs.SyncLaws.{IsRooted, RowsAreHeld, TreesAreRooted}
use Rattle.lfs_sync.proofs.ShownLemmas.{AreBehind}

-- ---- their order

behind_by : (b : Bool) (n : Name) (p q : Path) → b ≡ true → (if b then path_precedes p q else precedes n n) ≡ path_precedes p q
behind_by true n p q same = refl
behind_by false n p q same = cc

-- paths below one path stand as what is left of them
order_behind : (at p q : Path) → path_precedes (at ++ p) (at ++ q) ≡ path_precedes p q
order_behind [] p q = refl
order_behind (n ∷ at) p q =
    ap (λ (b : Bool). if b then path_precedes (at ++ p) (at ++ q) else precedes n n) ((bytes_eq-Decides n n).1 refl) ∙ order_behind at p q

behind_here : (at rest path other : Path) → below at path ≡ Some rest → path_precedes path (at ++ other) ≡ true → path_precedes rest other ≡ true
behind_here at rest path other is before =
    sym (order_behind at rest other) ∙ ap (λ (p : Path). path_precedes p (at ++ other)) (sym (below_some at path rest is)) ∙ before

all_behind : (d : Disk) (at rest path : Path) (rows : List Row) → below at path ≡ Some rest
    → All (λ (s : Row). path_precedes path s.path ≡ true) rows → AreBehind rest (held_of d at rows)
all_behind d at rest path [] is behind = All-nil (λ (s : Shown). path_precedes rest s.path ≡ true)
all_behind d at rest path (r ∷ rows) is behind =
    by (below at r.path) refl (all_behind d at rest path rows is (All-tail (λ (s : Row). path_precedes path s.path ≡ true) r rows behind))
  where
    by : (left : Option Path) → below at r.path ≡ left → AreBehind rest (held_of d at rows)
        → AreBehind rest (held_by d r left (held_of d at rows))
    by None outside later = later
    by (Some other) inside later =
        All-cons (λ (s : Shown). path_precedes rest s.path ≡ true) (record { path = other; node = shown_node d r.entry }) (held_of d at rows)
        (behind_here at rest path other is
        (subst (λ (p : Path). path_precedes path p ≡ true) (below_some at r.path other inside)
        (All-head (λ (s : Row). path_precedes path s.path ≡ true) r rows behind)))
        later

pub held_rise : (d : Disk) (at : Path) (rows : List Row) → RowsRise rows → ShownRise (held_of d at rows)
held_rise d at [] rise = tt
held_rise d at (r ∷ rows) rise = by (below at r.path) refl (held_rise d at rows rise.1)
  where
    by : (left : Option Path) → below at r.path ≡ left → ShownRise (held_of d at rows) → ShownRise (held_by d r left (held_of d at rows))
    by None outside later = later
    by (Some rest) inside later = (all_behind d at rest r.path rows inside rise.0, later)

-- ---- what they show

held_right : (d : Disk) (at : Path) (map : Path → Option Node) (rows : List Row)
    → AllByRecursion (λ (r : Row). map r.path ≡ Some (shown_node d r.entry)) rows
    → AllByRecursion (λ (r : Shown). map (at ++ r.path) ≡ Some r.node) (held_of d at rows)
held_right d at map [] right = tt
held_right d at map (r ∷ rows) right = by (below at r.path) refl (held_right d at map rows right.1)
  where
    by : (left : Option Path) → below at r.path ≡ left → AllByRecursion (λ (s : Shown). map (at ++ s.path) ≡ Some s.node) (held_of d at rows)
        → AllByRecursion (λ (s : Shown). map (at ++ s.path) ≡ Some s.node) (held_by d r left (held_of d at rows))
    by None outside later = later
    by (Some rest) inside later = (ap map (sym (below_some at r.path rest inside)) ∙ right.0, later)

-- what rows show at a path is there
shown_right : (map : Path → Option Node) (at rest : Path) (x : Node) (held : List Shown)
    → AllByRecursion (λ (r : Shown). map (at ++ r.path) ≡ Some r.node) held → shown_at held rest ≡ Some x → map (at ++ rest) ≡ Some x
shown_right map at rest x [] right is = absurd (none-some x is)
shown_right map at rest x (r ∷ held) right is =
    by (same_path r.path rest) (same_path_decides r.path rest) is (λ later. shown_right map at rest x held right.1 later)
  where
    by : (b : Bool) → Decides b (r.path ≡ rest) → (if b then Some r.node else shown_at held rest) ≡ Some x
        → (shown_at held rest ≡ Some x → map (at ++ rest) ≡ Some x) → map (at ++ rest) ≡ Some x
    by true same found later = ap (λ (p : Path). map (at ++ p)) (sym (same.0 refl)) ∙ right.0 ∙ found
    by false other found later = later found

-- where rows show nothing no row is
none_shown : (d : Disk) (at rest : Path) (rows : List Row) (x : Row) → shown_at (held_of d at rows) rest ≡ None → Contains rows x
    → x.path ≡ at ++ rest → ⊥
none_shown d at rest [] x none there is = contains_none x there
none_shown d at rest (r ∷ rows) x none there is =
    by (below at r.path) refl none (λ later. none_shown d at rest rows x later)
  where
    here : (left : Option Path) → below at r.path ≡ left → x ≡ r → shown_at (held_by d r left (held_of d at rows)) rest ≡ None → ⊥
    here None outside same found = below_none at r.path rest outside (ap (λ (y : Row). y.path) (sym same) ∙ is)
    here (Some other) inside same found =
        let left_is : other ≡ rest =
        same_Some other rest (sym inside ∙ ap (below at) (ap (λ (y : Row). y.path) (sym same) ∙ is) ∙ below-append at rest) in
        none-some (shown_node d r.entry)
        (sym (ap (λ (b : Bool). if b then Some (shown_node d r.entry) else shown_at (held_of d at rows) rest) (sym ((same_path_decides other rest).1 left_is)) ∙ found))

    first_none : (b : Bool) (first : Node) (later : Option Node) → (if b then Some first else later) ≡ None → later ≡ None
    first_none true first later found = absurd (none-some first (sym found))
    first_none false first later found = found

    behind : (left : Option Path) → shown_at (held_by d r left (held_of d at rows)) rest ≡ None → shown_at (held_of d at rows) rest ≡ None
    behind None found = found
    behind (Some other) found = first_none (same_path other rest) (shown_node d r.entry) (shown_at (held_of d at rows) rest) found

    by : (left : Option Path) → below at r.path ≡ left → shown_at (held_by d r left (held_of d at rows)) rest ≡ None
        → (shown_at (held_of d at rows) rest ≡ None → Contains rows x → x.path ≡ at ++ rest → ⊥) → ⊥
    by left is_left found later = elim (contains_cases r rows x there) [
      | inl same ↦ here left is_left same found
      | inr after ↦ later (behind left found) after is
    ]

-- ---- the rows of a mount

outlined_there : (v : Volume) (p : Path) (o : Option Entry) (x : Node) → entry_at v p ≡ o → option_map node o ≡ Some x
    → (e : Entry) × (option_map outlined_entry (entry_at v p) ≡ Some e)
outlined_there v p None x at is = absurd (none-some x is)
outlined_there v p (Some e) x at is = (outlined_entry e, ap (option_map outlined_entry) at)

module _ (shows : RowsShowTheTree) (d : Disk) (m : MountedValue) (is : IsMountOf d m) (at : Path) (disk : IsDisk d) where
  each_right : AllByRecursion (λ (r : Row). tree is.volume r.path ≡ Some (shown_node d r.entry)) m.rows
  each_right =
      recursion_from_All (λ (r : Row). tree is.volume r.path ≡ Some (shown_node d r.entry)) m.rows
      (All-weaker (Contains m.rows) (λ (r : Row). tree is.volume r.path ≡ Some (shown_node d r.entry))
      (λ r there. (shows d m is r disk there).0) m.rows (All-contains_itself m.rows))

  right : AllByRecursion (λ (r : Shown). tree is.volume (at ++ r.path) ≡ Some r.node) (held_of d at m.rows)
  right = held_right d at (tree is.volume) m.rows each_right

  at_none : (rest : Path) (o : Option Node) → tree is.volume (at ++ rest) ≡ o → shown_at (held_of d at m.rows) rest ≡ None
      → shown_at (held_of d at m.rows) rest ≡ tree is.volume (at ++ rest)
  at_none rest None there none = none ∙ sym there
  at_none rest (Some x) there none =
      let e = outlined_there is.volume (at ++ rest) (entry_at is.volume (at ++ rest)) x refl there in
      let found : entry_at m.outline (at ++ rest) ≡ Some e.0 =
      ap (λ (v : Volume). entry_at v (at ++ rest)) is.outline ∙ outlined_at is.volume (at ++ rest) ∙ e.1 in
      absurd (none_shown d at rest m.rows (record { path = at ++ rest; entry = e.0 }) none (is.rows.complete (at ++ rest) e.0 found) refl)

  by_shown : (rest : Path) (o : Option Node) → shown_at (held_of d at m.rows) rest ≡ o
      → shown_at (held_of d at m.rows) rest ≡ tree is.volume (at ++ rest)
  by_shown rest None none = at_none rest (tree is.volume (at ++ rest)) refl none
  by_shown rest (Some x) found = found ∙ sym (shown_right (tree is.volume) at rest x (held_of d at m.rows) right found)

pub rows_are_held : RowsShowTheTree → RowsAreHeld
rows_are_held shows d m is at disk = record {
  rise = held_rise d at m.rows is.rows.rise;
  right = right shows d m is at disk;
  complete = λ rest. by_shown shows d m is at disk rest (shown_at (held_of d at m.rows) rest) refl;
}

-- ---- trees of volumes

some_there : (o : Option Node) → is_some o ≡ true → (x : Node) × (o ≡ Some x)
some_there None some' = cc
some_there (Some x) some' = (x, refl)

-- an entry that leads somewhere is a directory's
leads_directory : (e : Entry) (k : Pair) → target e ≡ Some k → is_directory (Some (node e)) ≡ true
leads_directory e k leads = by e.body leads
  where
    by : (b : Body) → body_target b ≡ Some k → is_directory (Some (node_of b e.attributes)) ≡ true
    by (Inline bytes) is = absurd (none-some k is)
    by (Chain blocks bytes) is = absurd (none-some k is)
    by (Directory_at pair) is = refl

pub trees_are_rooted : TreesAreRooted
trees_are_rooted v = (refl, rooted)
  where
    rooted : IsRooted (tree v)
    rooted p n there =
        let x = some_there (tree v (p ++ n ∷ [])) there in
        let e = some_entry (entry_at v (p ++ n ∷ [])) x.0 x.1 in
        let above = stands_below v p n e.0 e.1 in
        ap (λ (o : Option Entry). is_directory (option_map node o)) above.there ∙ leads_directory above.above above.pair above.leads
