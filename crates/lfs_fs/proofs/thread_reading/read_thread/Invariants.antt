use Rattle.lfs_fs.specs.Reading.{reading_of}
use Rattle.lfs_fs.specs.Used.{unmarked}
use Rattle.lfs_fs.proofs.JoinedLemmas.{IsKeptTo}
use Rattle.lfs_fs.proofs.thread_reading.read_thread.Given as goal

abbrev pub invariant-thread : goal.invariant-thread
invariant-thread g l = IsKeptTo (reading_of (g.B.Blocks.disk l.blocks)) l.limits l.fn.root l.next l.used l.joined

abbrev pub decreases-thread : goal.decreases-thread
decreases-thread g l = unmarked l.used
