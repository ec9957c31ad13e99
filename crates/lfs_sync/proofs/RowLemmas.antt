-- What the rows of a folder have, as the code has them.
use Rattle.std.proofs.Common.{◌≡◌, List, [], ◌∷◌, Some, All, sym, subst}
use Rattle.std.specs.Prelude.{Contains}
use Rattle.std.specs.List.{AllByRecursion, AllZip}
use Rattle.std.proofs.lemmas.List.Elements.{All-cons, All-contains_itself, All-nil, All-weaker, recursion_from_All}
use Rattle.lfs_meta.specs.Name.{IsName}
use Rattle.lfs_fs.specs.Row.{PathsAreOrdered}
use Rattle.lfs_sync.specs.Shown.{IsBare, Shown, ShownRise, shown_at}
use Rattle.lfs_sync.specs.SyncRows.{IsFolderRow, folder_row_bytes}
use Rattle.lfs_sync.specs.declared.sync_row.SyncRow.{SyncRow}
use Rattle.lfs_sync.proofs.FolderLemmas.{bare_node, found_there}

pub rows_bare : (rows : List SyncRow) (wanted : List Shown) → AllZip IsFolderRow rows wanted → AllByRecursion (λ (r : Shown). IsBare r.node) wanted
rows_bare [] [] are = tt
rows_bare [] (w ∷ wanted) are = absurd are
rows_bare (r ∷ rows) [] are = absurd are
rows_bare (r ∷ rows) (w ∷ wanted) are = (subst IsBare (sym are.0.node) (bare_node (folder_row_bytes r)), rows_bare rows wanted are.1)

pub rows_named : (rows : List SyncRow) (wanted : List Shown) → AllZip IsFolderRow rows wanted → All (λ (r : Shown). All IsName r.path) wanted
rows_named [] [] are = All-nil (λ (r : Shown). All IsName r.path)
rows_named [] (w ∷ wanted) are = absurd are
rows_named (r ∷ rows) [] are = absurd are
rows_named (r ∷ rows) (w ∷ wanted) are =
    All-cons (λ (s : Shown). All IsName s.path) w wanted are.0.path.0 (rows_named rows wanted are.1)

pub rows_right : PathsAreOrdered → (wanted : List Shown) → ShownRise wanted
    → AllByRecursion (λ (r : Shown). shown_at wanted r.path ≡ Some r.node) wanted
rows_right order wanted rise =
    recursion_from_All (λ (r : Shown). shown_at wanted r.path ≡ Some r.node) wanted
    (All-weaker (Contains wanted) (λ (r : Shown). shown_at wanted r.path ≡ Some r.node) (λ r there. found_there order wanted r rise there)
    wanted (All-contains_itself wanted))
