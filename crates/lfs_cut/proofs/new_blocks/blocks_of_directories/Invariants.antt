-- The directories in front are summed up.
use Rattle.std.proofs.Common.{◌≡◌, take, min}
use Rattle.std.specs.Prelude.{sum_by}
use Rattle.lfs_cut.specs.SetParts.{set_blocks_of}
use Rattle.lfs_cut.proofs.new_blocks.blocks_of_directories.Given as goal

abbrev pub invariant-each : goal.invariant-each
invariant-each l = l.sum ≡ min 18446744073709551615 (sum_by (set_blocks_of l.room.bytes l.room.superblock)
    (take l.directory-index l.directories))
