-- What is packed of a host's folder: rows that say what is below it.
use Rattle.std.proofs.Common.{◌≡◌, ℕ, List, [], ◌∷◌, Option, Some, None, true, All, map, length, drop, get_or, refl, sym, ap, subst, ◌∙◌, arith}
use Rattle.std.proofs.lemmas.List.Elements.{All-cons, All-head, All-nil, All-tail, All-weaker}
use Rattle.std.specs.List.{AllZip}
use Rattle.lfs_meta.specs.Name.{IsName}
use Rattle.lfs_fs.specs.Path.{Path, path_text}
use Rattle.lfs_fs.specs.Limits.{most_file}
use Rattle.lfs_fs.specs.Ordered.{PathsRise}
use Rattle.lfs_fs.specs.Row.{path_precedes}
use Rattle.lfs_command.specs.declared.refusal.Refusal.TheVariants.{Memory as No_memory}
use Rattle.lfs_request.specs.declared.fault.Fault.TheVariants.{Refused}
use Rattle.lfs_extract.specs.declared.folder_fault.FolderFault.TheVariants.{Memory}
use Rattle.lfs_extract.specs.declared.folder_row.FolderRow.{FolderRow}
use Rattle.lfs_extract.specs.FolderRows.{AreFolderRows, AreSpelled, IsFolder, IsRow, PathRow, paths_of}
use Rattle.lfs_extract.specs.HostNames.{IsHostName}
use Rattle.lfs_host.specs.HostTree.{HostTree}
use Rattle.lfs_host.specs.Scene.{Scene}
use Rattle.lfs_pack.specs.declared.pack_row.PackRow.{PackRow}
use Rattle.lfs_pack.specs.Packed.{ArePackable, BeginAtRoot, IsRowOf, KindsRise, Packed, PackedRise}
use Rattle.lfs_pack.specs.RowText.{RowText, pack_text}
use Rattle.lfs_open.specs.HostFolder.{PacksFolder, ReadsNoFolder, text_of_folder_row, packed_row}

module _ (most : ℕ) where
  -- ---- rows of paths can be packed

  names_fit : (p : Path) → All IsHostName p → All IsName p
  names_fit p fits = All-weaker IsHostName IsName (λ n fit. fit.name) p fits

  all_names : (rows : List PathRow) → All (λ p. All IsHostName p) (paths_of rows) → All (λ (r : Packed). All IsName r.path) (map (packed_row most) rows)
  all_names [] fits = All-nil (λ (r : Packed). All IsName r.path)
  all_names (r ∷ rows) fits =
      All-cons (λ (s : Packed). All IsName s.path) (packed_row most r) (map (packed_row most) rows)
      (names_fit r.path (All-head (λ p. All IsHostName p) r.path (paths_of rows) fits))
      (all_names rows (All-tail (λ p. All IsHostName p) r.path (paths_of rows) fits))

  all_behind : (p : Path) (rows : List PathRow) → All (λ q. path_precedes p q ≡ true) (paths_of rows)
      → All (λ (s : Packed). path_precedes p s.path ≡ true) (map (packed_row most) rows)
  all_behind p [] behind = All-nil (λ (s : Packed). path_precedes p s.path ≡ true)
  all_behind p (r ∷ rows) behind =
      All-cons (λ (s : Packed). path_precedes p s.path ≡ true) (packed_row most r) (map (packed_row most) rows)
      (All-head (λ q. path_precedes p q ≡ true) r.path (paths_of rows) behind)
      (all_behind p rows (All-tail (λ q. path_precedes p q ≡ true) r.path (paths_of rows) behind))

  all_rise : (rows : List PathRow) → PathsRise (paths_of rows) → PackedRise (map (packed_row most) rows)
  all_rise [] rise = tt
  all_rise (r ∷ rows) rise = (all_behind r.path rows rise.0, all_rise rows rise.1)

  no_kinds : (rows : List PathRow) → All (λ (r : Packed). KindsRise r.attributes) (map (packed_row most) rows)
  no_kinds [] = All-nil (λ (r : Packed). KindsRise r.attributes)
  no_kinds (r ∷ rows) = All-cons (λ (s : Packed). KindsRise s.attributes) (packed_row most r) (map (packed_row most) rows) tt (no_kinds rows)

  begins : (rows : List PathRow) → AreFolderRows rows → BeginAtRoot (map (packed_row most) rows)
  begins rows are = subst (λ (rs : List PathRow). BeginAtRoot (map (packed_row most) rs)) (sym are.root) (refl, refl)

  packable : (rows : List PathRow) → AreFolderRows rows → ArePackable (map (packed_row most) rows)
  packable rows are = record {
    root = begins rows are;
    rise = all_rise rows are.rise;
    names = all_names rows are.fit;
    kinds = no_kinds rows;
  }

  -- ---- what is packed is what is spelled

  -- a row that is packed says what the folder's row says
  row_of : (row : PackRow) (f : FolderRow) (r : PathRow) → pack_text row ≡ text_of_folder_row most f → IsRow f (path_text r.path) r.bytes
      → All IsName r.path → IsRowOf row (packed_row most r)
  row_of row f r same is names = record {
    path = (names, ap (λ t. t.text) same ∙ is.0);
    bytes = ap (λ t. t.bytes) same ∙ is.1;
    most = ap (λ t. t.most) same;
    attributes = ap (λ t. t.attributes) same;
  }

  head_same : (t u : RowText) (ts us : List RowText) → t ∷ ts ≡ u ∷ us → t ≡ u
  head_same t u ts us same = ap (λ xs. get_or xs 0 t) same

  tail_same : (t u : RowText) (ts us : List RowText) → t ∷ ts ≡ u ∷ us → ts ≡ us
  tail_same t u ts us same = ap (drop 1) same

  rows_of : (rows : List PackRow) (folder : List FolderRow) (shown : List PathRow) → map pack_text rows ≡ map (text_of_folder_row most) folder
      → AreSpelled folder shown → All (λ p. All IsHostName p) (paths_of shown) → AllZip IsRowOf rows (map (packed_row most) shown)
  rows_of [] [] [] same spelled fits = tt
  rows_of [] [] (r ∷ shown) same spelled fits = absurd spelled
  rows_of [] (f ∷ folder) shown same spelled fits = absurd (omega (arith, ap length same))
  rows_of (row ∷ rows) [] shown same spelled fits = absurd (omega (arith, ap length same))
  rows_of (row ∷ rows) (f ∷ folder) [] same spelled fits = absurd spelled
  rows_of (row ∷ rows) (f ∷ folder) (r ∷ shown) same spelled fits = (
    row_of row f r (head_same (pack_text row) (text_of_folder_row most f) (map pack_text rows) (map (text_of_folder_row most) folder) same) spelled.0
        (names_fit r.path (All-head (λ p. All IsHostName p) r.path (paths_of shown) fits)),
    rows_of rows folder shown (tail_same (pack_text row) (text_of_folder_row most f) (map pack_text rows) (map (text_of_folder_row most) folder) same) spelled.1
        (All-tail (λ p. All IsHostName p) r.path (paths_of shown) fits),
  )

  -- the rows of a folder are packed
  pub packs : (tree : Option HostTree) (dir : List ℕ) (folder : List FolderRow) (rows : List PackRow)
      → IsFolder most_file tree dir folder → map pack_text rows ≡ map (text_of_folder_row most) folder → PacksFolder tree dir most rows
  packs tree dir folder rows is same = record {
    shown = is.shown;
    ordered = is.ordered;
    all = is.all;
    packed = record {
      each = rows_of rows folder is.shown same is.spelled is.ordered.fit;
      packable = packable is.shown is.ordered;
    };
  }

-- want of memory says nothing of the host
pub wants_memory : (tree : Option HostTree) (dir : List ℕ) (new : Scene) → ReadsNoFolder tree dir new (Refused No_memory)
wants_memory None dir new = (Memory, refl, tt, tt)
wants_memory (Some tree) dir new = (Memory, refl, tt, tt)
