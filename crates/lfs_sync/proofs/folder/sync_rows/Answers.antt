use Rattle.std.proofs.Common.{◌≡◌, ◌++◌, ◌∷◌, [], List, ap, arith, map, sym, take, take_all, ◌∙◌}
use Rattle.std.proofs.lemmas.List.{map-append}
use Rattle.lfs_extract.specs.declared.folder_row.FolderRow.{FolderRow}
use Rattle.lfs_sync.specs.SyncRows.{folder_text, sync_text}
use Rattle.lfs_sync.proofs.FolderLemmas.{rows_of_folder}
use Rattle.lfs_sync.proofs.PlanLemmas.{one_more}
use Rattle.lfs_sync.proofs.folder.sync_rows.Goals as goal

pub each-preserved : goal.each-preserved
each-preserved c =
    one_more sync_text (map folder_text) c.each.rows.items c.push.new.self.items c.args.folder.now c.each.row-index c.sync_row.result
    c.row-item.result c.in_ok-push.ensures.items c.each-test.true c.row-item.is
    (λ l. map-append folder_text l (c.row-item.result ∷ []) ∙ ap (λ t. map folder_text l ++ t ∷ []) (sym c.sync_row.ensures))
    c.each.invariant

pub returns : goal.returns
returns c shown spelled are =
    let all : take c.each.row-index c.args.folder.now ≡ c.args.folder.now = take_all c.each.row-index c.args.folder.now (omega arith) in
    rows_of_folder c.each.rows.items c.args.folder.now shown
    (c.each.invariant ∙ ap (λ (l : List FolderRow). map folder_text l) all) spelled are
