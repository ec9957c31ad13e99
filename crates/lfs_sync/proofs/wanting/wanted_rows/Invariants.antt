use Rattle.std.proofs.Common.{◌≡◌, List, take}
use Rattle.lfs_sync.specs.Shown.{Shown}
use Rattle.lfs_sync.specs.Sides.{wanted_all}
use Rattle.lfs_sync.specs.SyncRows.{AreRowsOfFolder}
use Rattle.lfs_sync.proofs.wanting.wanted_rows.Given as goal

-- those so far
abbrev pub invariant-each : goal.invariant-each
invariant-each l = (wanted : List Shown) → AreRowsOfFolder l.rows wanted → wanted_all l.rows l.all.items ≡ take l.place wanted
