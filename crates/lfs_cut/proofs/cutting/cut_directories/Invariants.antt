-- The directories behind are still to be gone through.
use Rattle.std.proofs.Common.{◌≡◌, ◌++◌, length, map, take, drop}
use Rattle.lfs_cut.specs.CutParts.{directory_by}
use Rattle.lfs_cut.proofs.cutting.cut_directories.Given as goal

abbrev pub invariant-each : goal.invariant-each
invariant-each l = record {
  len : length l.directories.items ≡ length l.fn.directories.items;
  items : l.directories.items ≡ map (directory_by l.room.bytes l.room.superblock l.rows) (take l.at l.fn.directories.items) ++ drop l.at l.fn.directories.items;
}
