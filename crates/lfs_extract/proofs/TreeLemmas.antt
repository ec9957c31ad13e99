-- Rows of a mounted image are made as its tree has them.
use Rattle.std.proofs.Common.{◌≡◌, ℕ, suc, Bool, true, false, List, [], ◌∷◌, ◌++◌, Option, None, Some, refl, ap, sym, ◌∙◌, subst, arith, inl, inr, map}
use Rattle.std.specs.Prelude.{All, Contains, bytes_eq, if◌then◌else◌}
use Rattle.std.specs.List.{AllZip}
use Rattle.std.specs.Option.{option_map}
use Rattle.std.proofs.lemmas.List.Elements.{All-cons, All-contains_itself, All-head, All-nil, All-tail, All-weaker}
use Rattle.std.proofs.lemmas.Slice.Eq.{bytes_eq-Decides}
use Rattle.lfs_block.specs.Disk.{Disk, IsDisk}
use Rattle.lfs_meta.specs.Name.{Name}
use Rattle.lfs_fs.specs.Entry.{Entry}
use Rattle.lfs_fs.specs.Mounted.{MountedValue, IsMountOf}
use Rattle.lfs_fs.specs.NameOrder.{precedes}
use Rattle.lfs_fs.specs.Ordered.{PathsRise}
use Rattle.lfs_fs.specs.Outlined.{outlined_entry}
use Rattle.lfs_fs.specs.Path.{Path}
use Rattle.lfs_fs.specs.Row.{Row, RowsRise, path_precedes}
use Rattle.lfs_fs.specs.RowShown.{RowsShowTheTree, shown_node}
use Rattle.lfs_fs.specs.Tree.{Node, entry_at, tree}
use Rattle.lfs_fs.specs.Volume.{Volume}
use Rattle.lfs_fs.proofs.ContainsLemmas.{contains_cases, contains_none}
use Rattle.lfs_fs.proofs.EntryAtLemmas.{some_entry}
use Rattle.lfs_fs.proofs.OutlinedLemmas.{outlined_at}
use Rattle.lfs_command.specs.PathMap.{below}
use Rattle.lfs_law.proofs.PathMapLemmas.{below-append, below_some}
use Rattle.lfs_extract.specs.Extracted.{all_made}
use Rattle.lfs_extract.specs.RowsBelow.{row_below, rows_below}
use Rattle.lfs_extract.specs.TreeMade.{AreOfTree, IsMadeAt}

abbrev paths_of : List Row → List Path
paths_of rows = map (λ (r : Row). r.path) rows

-- ---- their order

behind_by : (b : Bool) (n : Name) (p q : Path) → b ≡ true → (if b then path_precedes p q else precedes n n) ≡ path_precedes p q
behind_by true n p q same = refl
behind_by false n p q same = cc

-- paths below one path stand as what is left of them
order_behind : (at p q : Path) → path_precedes (at ++ p) (at ++ q) ≡ path_precedes p q
order_behind [] p q = refl
order_behind (n ∷ at) p q = behind_by (bytes_eq n n) n (at ++ p) (at ++ q) ((bytes_eq-Decides n n).1 refl) ∙ order_behind at p q

all_behind : (at rest path : Path) (rows : List Row) → below at path ≡ Some rest → All (λ (s : Row). path_precedes path s.path ≡ true) rows
    → All (λ (p : Path). path_precedes rest p ≡ true) (paths_of (rows_below at rows))
all_behind at rest path [] is behind = All-nil (λ (p : Path). path_precedes rest p ≡ true)
all_behind at rest path (r ∷ rows) is behind =
    by (below at r.path) refl (all_behind at rest path rows is (All-tail (λ (s : Row). path_precedes path s.path ≡ true) r rows behind))
  where
    by : (left : Option Path) → below at r.path ≡ left → All (λ (p : Path). path_precedes rest p ≡ true) (paths_of (rows_below at rows))
        → All (λ (p : Path). path_precedes rest p ≡ true) (paths_of (row_below r.entry left (rows_below at rows)))
    by None outside later = later
    by (Some other) inside later =
        let before : path_precedes path r.path ≡ true = All-head (λ (s : Row). path_precedes path s.path ≡ true) r rows behind in
        All-cons (λ (p : Path). path_precedes rest p ≡ true) other (paths_of (rows_below at rows))
        (sym (order_behind at rest other)
        ∙ ap (λ (p : Path). path_precedes p (at ++ other)) (sym (below_some at path rest is))
        ∙ ap (path_precedes path) (sym (below_some at r.path other inside))
        ∙ before)
        later

rise_by : (at : Path) (r : Row) (rows : List Row) (left : Option Path) → below at r.path ≡ left
    → All (λ (s : Row). path_precedes r.path s.path ≡ true) rows → PathsRise (paths_of (rows_below at rows))
    → PathsRise (paths_of (row_below r.entry left (rows_below at rows)))
rise_by at r rows None outside behind later = later
rise_by at r rows (Some rest) inside behind later = (all_behind at rest r.path rows inside behind, later)

paths_rise : (at : Path) (rows : List Row) → RowsRise rows → PathsRise (paths_of (rows_below at rows))
paths_rise at [] h = tt
paths_rise at (r ∷ rows) h = rise_by at r rows (below at r.path) refl h.0 (paths_rise at rows h.1)

-- ---- what they show

each_right : (t : Path → Option Node) (d : Disk) (at : Path) (rows : List Row)
    → All (λ (r : Row). t r.path ≡ Some (shown_node d r.entry)) rows
    → All (λ (r : Row). t (at ++ r.path) ≡ Some (shown_node d r.entry)) (rows_below at rows)
each_right t d at [] right = All-nil (λ (r : Row). t (at ++ r.path) ≡ Some (shown_node d r.entry))
each_right t d at (r ∷ rows) right =
    by (below at r.path) refl (each_right t d at rows (All-tail (λ (s : Row). t s.path ≡ Some (shown_node d s.entry)) r rows right))
  where
    by : (left : Option Path) → below at r.path ≡ left
        → All (λ (s : Row). t (at ++ s.path) ≡ Some (shown_node d s.entry)) (rows_below at rows)
        → All (λ (s : Row). t (at ++ s.path) ≡ Some (shown_node d s.entry)) (row_below r.entry left (rows_below at rows))
    by None outside later = later
    by (Some rest) inside later =
        All-cons (λ (s : Row). t (at ++ s.path) ≡ Some (shown_node d s.entry)) (record { path = rest; entry = r.entry }) (rows_below at rows)
        (ap t (sym (below_some at r.path rest inside)) ∙ All-head (λ (s : Row). t s.path ≡ Some (shown_node d s.entry)) r rows right)
        later

each_made : (t : Path → Option Node) (d : Disk) (at : Path) (dir : List ℕ) (rows : List Row)
    → All (λ (r : Row). t (at ++ r.path) ≡ Some (shown_node d r.entry)) rows → AllZip (IsMadeAt t at dir) (paths_of rows) (all_made d dir rows)
each_made t d at dir [] h = tt
each_made t d at dir (r ∷ rows) h = (
  (shown_node d r.entry, All-head (λ (s : Row). t (at ++ s.path) ≡ Some (shown_node d s.entry)) r rows h, refl),
  each_made t d at dir rows (All-tail (λ (s : Row). t (at ++ s.path) ≡ Some (shown_node d s.entry)) r rows h),
)

-- ---- none is left out

has_row : (at rest : Path) (e : Entry) (rows : List Row) → Contains rows (record { path = at ++ rest; entry = e })
    → Contains (paths_of (rows_below at rows)) rest
has_row at rest e [] there = absurd (contains_none (record { path = at ++ rest; entry = e }) there)
has_row at rest e (r ∷ rows) there = elim (contains_cases r rows (record { path = at ++ rest; entry = e }) there) [
  | inl same ↦
      let inside : below at r.path ≡ Some rest = ap (λ (s : Row). below at s.path) (sym same) ∙ below-append at rest in
      subst (λ (o : Option Path). Contains (paths_of (row_below r.entry o (rows_below at rows))) rest) (sym inside) (0, omega arith, refl)
  | inr later ↦ behind (below at r.path) (has_row at rest e rows later)
]
  where
    behind : (o : Option Path) → Contains (paths_of (rows_below at rows)) rest
        → Contains (paths_of (row_below r.entry o (rows_below at rows))) rest
    behind None inside = inside
    behind (Some other) (i, within, is) = (suc i, omega arith, is)

has_path : (d : Disk) (m : MountedValue) (is : IsMountOf d m) (at rest : Path) (x : Node) → tree is.volume (at ++ rest) ≡ Some x
    → Contains (paths_of (rows_below at m.rows)) rest
has_path d m is at rest x there =
    let found = some_entry (entry_at is.volume (at ++ rest)) x there in
    let stands : entry_at m.outline (at ++ rest) ≡ Some (outlined_entry found.0) =
    ap (λ (v : Volume). entry_at v (at ++ rest)) is.outline ∙ outlined_at is.volume (at ++ rest) ∙ ap (option_map outlined_entry) found.1 in
    has_row at rest (outlined_entry found.0) m.rows (is.rows.complete (at ++ rest) (outlined_entry found.0) stands)

pub of_tree : RowsShowTheTree → (d : Disk) → IsDisk d → (m : MountedValue) → IsMountOf d m → (at : Path) (dir : List ℕ)
    → AreOfTree d at dir (all_made d dir (rows_below at m.rows))
of_tree shows d disk m is at dir = record {
  there = tree is.volume;
  mounts = (is.volume, is.holds, is.sound, λ p. refl);
  paths = paths_of (rows_below at m.rows);
  rise = paths_rise at m.rows is.rows.rise;
  complete = has_path d m is at;
  each = each_made (tree is.volume) d at dir (rows_below at m.rows)
      (each_right (tree is.volume) d at m.rows
      (All-weaker (Contains m.rows) (λ (r : Row). tree is.volume r.path ≡ Some (shown_node d r.entry)) (λ r there. (shows d m is r disk there).0)
      m.rows (All-contains_itself m.rows)));
}
