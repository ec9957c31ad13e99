-- The directories behind are still to be gone through.
use Rattle.std.proofs.Common.{◌≡◌, ◌++◌, length, map, take, drop}
use Rattle.lfs_command.specs.Clean.{cleaned}
use Rattle.lfs_command.specs.DirectoryEdit.{each_part}
use Rattle.lfs_cut.proofs.cleaning.clean_directories.Given as goal

abbrev pub invariant-each : goal.invariant-each
invariant-each l = record {
  len : length l.directories.items ≡ length l.fn.directories.items;
  items : l.directories.items ≡ map (each_part cleaned) (take l.at l.fn.directories.items) ++ drop l.at l.fn.directories.items;
}
