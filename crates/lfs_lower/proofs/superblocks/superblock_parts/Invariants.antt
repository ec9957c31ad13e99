use Rattle.lfs_fs.specs.Reading.{reading_of}
use Rattle.lfs_fs.specs.Used.{unmarked}
use Rattle.lfs_lower.specs.Joining.{AreGathered}
use Rattle.lfs_lower.proofs.superblocks.superblock_parts.Given as goal

abbrev pub invariant-walk : goal.invariant-walk
invariant-walk g l = AreGathered (reading_of (g.B.Blocks.disk l.blocks)) l.table l.parts.items l.next

abbrev pub decreases-walk : goal.decreases-walk
decreases-walk g l = unmarked l.table
