-- The rows so far are packed.
use Rattle.std.proofs.Common.{drop}
use Rattle.lfs_open.proofs.HostFolderLemmas.{IsPackedTo}
use Rattle.lfs_open.proofs.host_folder.rows_to_pack.Given as goal

abbrev pub invariant-each : goal.invariant-each
invariant-each l = record {
  packed : IsPackedTo l.most l.folder (drop l.row-index l.folder) l.rows.items;
}
