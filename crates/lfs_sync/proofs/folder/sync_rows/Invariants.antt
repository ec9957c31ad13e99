use Rattle.std.proofs.Common.{◌≡◌, map, take}
use Rattle.lfs_sync.specs.SyncRows.{folder_text, sync_text}
use Rattle.lfs_sync.proofs.folder.sync_rows.Given as goal

-- those so far
abbrev pub invariant-each : goal.invariant-each
invariant-each l = map sync_text l.rows.items ≡ map folder_text (take l.row-index l.folder)
