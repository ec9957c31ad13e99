-- The rows so far are packed.
use Rattle.std.proofs.Common.{drop}
use Rattle.lfs_pack.proofs.TextLemmas.{ArePackedTo}
use Rattle.lfs_pack.proofs.repacking.pack_rows.Given as goal

abbrev pub invariant-each : goal.invariant-each
invariant-each l = record {
  packed : ArePackedTo l.most l.copied (drop l.row-index l.copied) l.rows.items;
}
