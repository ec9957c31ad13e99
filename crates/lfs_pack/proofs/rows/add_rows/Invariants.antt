-- The rows so far are added.
use Rattle.std.proofs.Common.{drop}
use Rattle.lfs_pack.proofs.RowsInTurn.{AreBeingAdded}
use Rattle.lfs_pack.proofs.rows.add_rows.Given as goal

abbrev pub invariant-each : goal.invariant-each
invariant-each l = AreBeingAdded l.rows (drop l.row-index l.rows) l.fn.new l.new l.fn.at l.at
