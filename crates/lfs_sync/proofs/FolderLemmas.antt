-- The rows of a host's folder are those that a part of a tree becomes.
use Rattle.std.proofs.Common.{drop, get_or, length, ◌≡◌, ℕ, Bool, true, false, List, [], ◌∷◌, ◌++◌, Option, Some, None, All, map, refl, ap}
use Rattle.std.proofs.Common.{sym, ◌∙◌, subst, inl, inr, arith}
use Rattle.std.specs.Bool.{Decides}
use Rattle.std.specs.Prelude.{Contains, if◌then◌else◌}
use Rattle.std.specs.List.{AllByRecursion, AllZip}
use Rattle.std.proofs.lemmas.List.{same_from_push}
use Rattle.std.proofs.lemmas.List.Elements.{All-cons, All-contains, All-contains_itself, All-head, All-nil, All-tail, All-weaker}
use Rattle.std.proofs.lemmas.List.Elements.{recursion_from_All}
use Rattle.std.proofs.lemmas.Option.{none-some}
use Rattle.lfs_meta.specs.Name.{IsName, Name}
use Rattle.lfs_extract.specs.FolderRows.{AreFolderRows, AreSpelled, IsInside, IsRow, PathRow, folder_row, paths_of}
use Rattle.lfs_extract.specs.declared.folder_row.FolderRow.{FolderRow}
use Rattle.lfs_extract.specs.HostNames.{IsHostName}
use Rattle.lfs_fs.specs.Ordered.{PathsRise}
use Rattle.lfs_fs.specs.Path.{Path, path_text}
use Rattle.lfs_fs.specs.Row.{PathsAreOrdered, path_precedes}
use Rattle.lfs_fs.specs.Tree.{Dir, Node}
use Rattle.lfs_fs.proofs.ContainsLemmas.{contains_cases, contains_first, contains_later, contains_mapped}
use Rattle.lfs_command.specs.PathMap.{same_path}
use Rattle.lfs_law.proofs.PathMapLemmas.{no_names, same_path_decides}
use Rattle.lfs_sync.specs.Shown.{IsBare, Shown, ShownRise, shown_at, wanted_node, wanted_of}
use Rattle.lfs_sync.specs.SyncLaws.{FoldersAreWanted}
use Rattle.lfs_sync.specs.SyncRows.{AreRowsOfFolder, IsFolderRow, folder_text, sync_text}
use Rattle.lfs_sync.specs.declared.sync_row.SyncRow.{SyncRow}
use Rattle.lfs_sync.proofs.DoneLemmas.{same_itself}
use Rattle.lfs_sync.proofs.ShownLemmas.{AreBehind, other_before}

-- ---- what rows have at their paths

pub found_there : PathsAreOrdered → (rows : List Shown) (r : Shown) → ShownRise rows → Contains rows r → shown_at rows r.path ≡ Some r.node
found_there order [] r rise there = absurd (omega arith)
found_there order (x ∷ rows) r rise there = elim (contains_cases x rows r there) [
  | inl same ↦ subst (λ (y : Shown). shown_at (x ∷ rows) y.path ≡ Some y.node) (sym same)
      (ap (λ (b : Bool). if b then Some x.node else shown_at rows x.path) (same_itself x.path))
  | inr later ↦
      ap (λ (b : Bool). if b then Some x.node else shown_at rows r.path)
      (other_before order x.path r.path (All-contains (λ (s : Shown). path_precedes x.path s.path ≡ true) rows r rise.0 later))
      ∙ found_there order rows r rise.1 later
]

-- what rows have at a path is one of them
row_there : (rows : List Shown) (p : Path) (x : Node) → shown_at rows p ≡ Some x → (r : Shown) × Contains rows r × (r.path ≡ p)
row_there [] p x is = absurd (none-some x is)
row_there (r ∷ rows) p x is = by (same_path r.path p) (same_path_decides r.path p) is (λ later. row_there rows p x later)
  where
    by : (b : Bool) → Decides b (r.path ≡ p) → (if b then Some r.node else shown_at rows p) ≡ Some x
        → (shown_at rows p ≡ Some x → (s : Shown) × Contains rows s × (s.path ≡ p)) → (s : Shown) × Contains (r ∷ rows) s × (s.path ≡ p)
    by true same found later = (r, contains_first r rows, same.0 refl)
    by false other found later = let s = later found in (s.0, contains_later r rows s.0 s.1, s.2)

-- ---- a folder's rows

pub bare_node : (bytes : Option (List ℕ)) → IsBare (wanted_node bytes)
bare_node None = refl
bare_node (Some bytes) = refl

bare_rows : (rows : List PathRow) → AllByRecursion (λ (r : Shown). IsBare r.node) (map wanted_of rows)
bare_rows [] = tt
bare_rows (r ∷ rows) = (bare_node r.bytes, bare_rows rows)

behind_rows : (p : Path) (rows : List PathRow) → All (λ q. path_precedes p q ≡ true) (paths_of rows) → AreBehind p (map wanted_of rows)
behind_rows p [] behind = All-nil (λ (s : Shown). path_precedes p s.path ≡ true)
behind_rows p (r ∷ rows) behind =
    All-cons (λ (s : Shown). path_precedes p s.path ≡ true) (wanted_of r) (map wanted_of rows)
    (All-head (λ q. path_precedes p q ≡ true) r.path (paths_of rows) behind)
    (behind_rows p rows (All-tail (λ q. path_precedes p q ≡ true) r.path (paths_of rows) behind))

rise_rows : (rows : List PathRow) → PathsRise (paths_of rows) → ShownRise (map wanted_of rows)
rise_rows [] rise = tt
rise_rows (r ∷ rows) rise = (behind_rows r.path rows rise.0, rise_rows rows rise.1)

names_rows : (rows : List PathRow) → All (λ p. All IsHostName p) (paths_of rows) → All (λ (r : Shown). All IsName r.path) (map wanted_of rows)
names_rows [] fit = All-nil (λ (r : Shown). All IsName r.path)
names_rows (r ∷ rows) fit =
    All-cons (λ (s : Shown). All IsName s.path) (wanted_of r) (map wanted_of rows)
    (All-weaker IsHostName IsName (λ n host. host.name) r.path (All-head (λ p. All IsHostName p) r.path (paths_of rows) fit))
    (names_rows rows (All-tail (λ p. All IsHostName p) r.path (paths_of rows) fit))

-- a row's path is one of the rows'
path_there : (rows : List PathRow) (s : Shown) → Contains (map wanted_of rows) s → Contains (paths_of rows) s.path
path_there [] s there = absurd (omega arith)
path_there (r ∷ rows) s there = elim (contains_cases (wanted_of r) (map wanted_of rows) s there) [
  | inl same ↦ subst (λ (y : Shown). Contains (paths_of (r ∷ rows)) y.path) (sym same) (contains_first r.path (paths_of rows))
  | inr later ↦ contains_later r.path (paths_of rows) s.path (path_there rows s later)
]

module _ (order : PathsAreOrdered) (rows : List PathRow) (are : AreFolderRows rows) where
  abbrev wanted : List Shown
  wanted = map wanted_of rows

  rise : ShownRise wanted
  rise = rise_rows rows are.rise

  -- a folder that has a row
  folder_there : (p : Path) → Contains rows (folder_row p) → shown_at wanted p ≡ Some (Dir [])
  folder_there p there = found_there order wanted (wanted_of (folder_row p)) rise (contains_mapped wanted_of rows (folder_row p) there)

  in_folder : (p : Path) (n : Name) → IsInside rows (p ++ n ∷ []) → shown_at wanted p ≡ Some (Dir [])
  in_folder p n (inl root) = absurd (no_names p n [] root)
  in_folder p n (inr (folder, m, same, there)) =
      subst (λ (q : Path). shown_at wanted q ≡ Some (Dir [])) (sym (same_from_push p folder n m same).0) (folder_there folder there)

  inside : (p : Path) (n : Name) (x : Node) → shown_at wanted (p ++ n ∷ []) ≡ Some x → shown_at wanted p ≡ Some (Dir [])
  inside p n x found =
      let row = row_there wanted (p ++ n ∷ []) x found in
      in_folder p n (All-contains (λ (q : Path). IsInside rows q) (paths_of rows) (p ++ n ∷ []) are.inside
      (subst (λ (q : Path). Contains (paths_of rows) q) row.2 (path_there rows row.0 row.1)))

  root : shown_at wanted [] ≡ Some (Dir [])
  root = ap (λ (l : List PathRow). shown_at (map wanted_of l) []) are.root

  right : AllByRecursion (λ (r : Shown). shown_at wanted r.path ≡ Some r.node) wanted
  right =
      recursion_from_All (λ (r : Shown). shown_at wanted r.path ≡ Some r.node) wanted
      (All-weaker (Contains wanted) (λ (r : Shown). shown_at wanted r.path ≡ Some r.node) (λ r there. found_there order wanted r rise there)
      wanted (All-contains_itself wanted))

pub folders_are_wanted : PathsAreOrdered → FoldersAreWanted
folders_are_wanted order rows are = record {
  rise = rise order rows are;
  right = right order rows are;
  names = names_rows rows are.fit;
  root = root order rows are;
  bare = bare_rows rows;
  inside = inside order rows are;
}

-- ---- the code's rows

-- a row that has the text and the bytes of a folder's
row_is : (row : SyncRow) (f : FolderRow) (r : PathRow) → sync_text row ≡ folder_text f → IsRow f (path_text r.path) r.bytes → All IsName r.path
    → IsFolderRow row (wanted_of r)
row_is row f r same is names = record {
  path = (names, ap (λ t. t.0) same ∙ is.0);
  node = ap wanted_node (sym (ap (λ t. t.1) same ∙ is.1));
}

head_same : {X : Type 0} (x y : X) (xs ys : List X) → x ∷ xs ≡ y ∷ ys → x ≡ y
head_same x y xs ys same = ap (λ l. get_or l 0 x) same

tail_same : {X : Type 0} (x y : X) (xs ys : List X) → x ∷ xs ≡ y ∷ ys → xs ≡ ys
tail_same x y xs ys same = ap (drop 1) same

rows_zip : (rows : List SyncRow) (folder : List FolderRow) (shown : List PathRow) → map sync_text rows ≡ map folder_text folder
    → AreSpelled folder shown → All (λ p. All IsHostName p) (paths_of shown) → AllZip IsFolderRow rows (map wanted_of shown)
rows_zip [] [] [] same spelled fits = tt
rows_zip [] [] (r ∷ shown) same spelled fits = absurd spelled
rows_zip [] (f ∷ folder) shown same spelled fits = absurd (omega (arith, ap length same))
rows_zip (row ∷ rows) [] shown same spelled fits = absurd (omega (arith, ap length same))
rows_zip (row ∷ rows) (f ∷ folder) [] same spelled fits = absurd spelled
rows_zip (row ∷ rows) (f ∷ folder) (r ∷ shown) same spelled fits = (
  row_is row f r (head_same (sync_text row) (folder_text f) (map sync_text rows) (map folder_text folder) same) spelled.0
      (All-weaker IsHostName IsName (λ n host. host.name) r.path (All-head (λ p. All IsHostName p) r.path (paths_of shown) fits)),
  rows_zip rows folder shown (tail_same (sync_text row) (folder_text f) (map sync_text rows) (map folder_text folder) same) spelled.1
      (All-tail (λ p. All IsHostName p) r.path (paths_of shown) fits),
)

pub rows_of_folder : (rows : List SyncRow) (folder : List FolderRow) (shown : List PathRow) → map sync_text rows ≡ map folder_text folder
    → AreSpelled folder shown → AreFolderRows shown → AreRowsOfFolder rows (map wanted_of shown)
rows_of_folder rows folder shown same spelled are = record {
  each = rows_zip rows folder shown same spelled are.fit;
  rise = rise_rows shown are.rise;
}
