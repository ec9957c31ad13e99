use Rattle.std.proofs.Common.{◌≡◌, ◌++◌}
use Rattle.lfs_block.specs.Disk.{Disk}
use Rattle.lfs_fs.specs.Listed.{rows_after, rows_listed}
use Rattle.lfs_listing.specs.Comparing.{AreComplete}
use Rattle.lfs_sync.specs.Shown.{held_of}
use Rattle.lfs_listing.specs.Below.{names}
use Rattle.lfs_sync.specs.Sides.{CanBeRead, held_all}
use Rattle.lfs_sync.proofs.holding.held_rows.Given as goal

-- those so far, and those of what is left; and all can be read, if the image's can
abbrev pub invariant-loop-row : goal.invariant-loop-row
invariant-loop-row l = record {
  shown : (d : Disk) → held_all d l.held.items ++ held_of d (names l.at) (rows_after (names l.path.items) l.row-iterator)
      ≡ held_of d (names l.at) (rows_listed l.fn.rows);
  complete : (d : Disk) → AreComplete d (rows_listed l.fn.rows) → CanBeRead d l.held.items × AreComplete d (rows_after (names l.path.items) l.row-iterator);
}
