use Rattle.lfs_fs.specs.Reading.{reading_of}
use Rattle.lfs_fs.specs.Used.{unmarked}
use Rattle.lfs_settle.specs.Walked.{AreWalked}
use Rattle.lfs_adopt.proofs.thread.read_thread.Given as goal

abbrev pub invariant-walk : goal.invariant-walk
invariant-walk g l = AreWalked (reading_of (g.B.Blocks.disk l.blocks)) l.table l.pairs.items l.parts.items l.next

abbrev pub decreases-walk : goal.decreases-walk
decreases-walk g l = unmarked l.table
