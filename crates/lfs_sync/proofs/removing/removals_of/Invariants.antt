use Rattle.std.proofs.Common.{◌≡◌, List, map, take}
use Rattle.lfs_block.specs.Disk.{Disk}
use Rattle.lfs_sync.specs.Planned.{in_texts, plan_asked}
use Rattle.lfs_listing.specs.Below.{names}
use Rattle.lfs_sync.specs.Sides.{held_all}
use Rattle.lfs_sync.specs.Synced.{removing}
use Rattle.lfs_sync.specs.declared.sync_row.SyncRow.{SyncRow}
use Rattle.lfs_sync.proofs.removing.removals_of.Given as goal

-- those so far
abbrev pub invariant-each : goal.invariant-each
invariant-each l =
    (d : Disk) (rows : List SyncRow)
    → plan_asked rows l.plan.items ≡ in_texts (map (removing (names l.at)) (held_all d (take l.row-index l.held)))
