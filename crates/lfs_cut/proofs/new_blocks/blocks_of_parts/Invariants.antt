-- The parts in front are summed up.
use Rattle.std.proofs.Common.{◌≡◌, take, min}
use Rattle.std.specs.Prelude.{sum_by}
use Rattle.lfs_cut.specs.SetParts.{blocks_set}
use Rattle.lfs_cut.proofs.new_blocks.blocks_of_parts.Given as goal

abbrev pub invariant-each : goal.invariant-each
invariant-each l = l.sum ≡ min 18446744073709551615 (sum_by (blocks_set l.room.bytes l.room.superblock) (take l.part-index l.parts))
