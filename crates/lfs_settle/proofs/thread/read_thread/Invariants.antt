-- The parts so far, and the steps of their tails.
use Rattle.std.proofs.Common.{◌≡◌, false}
use Rattle.lfs_fs.specs.Used.{unmarked}
use Rattle.lfs_lower.specs.Joining.{parts_held}
use Rattle.lfs_lower.specs.LaterReading.{later_reading_of}
use Rattle.lfs_settle.specs.Ended.{steps_in}
use Rattle.lfs_settle.specs.InStep.{stepping}
use Rattle.lfs_settle.specs.Walked.{AreWalked}
use Rattle.lfs_settle.proofs.thread.read_thread.Given as goal

abbrev pub invariant-walk : goal.invariant-walk
invariant-walk g l = record {
  walked : AreWalked (stepping l.steps (later_reading_of (g.B.Blocks.disk l.blocks))) l.table l.thread.pairs.items
      l.thread.parts.items l.next;
  steps : l.thread.steps.items ≡ steps_in l.steps (parts_held (later_reading_of (g.B.Blocks.disk l.blocks)) l.thread.pairs.items);
  cut : l.thread.is_whole ≡ false;
}

abbrev pub decreases-walk : goal.decreases-walk
decreases-walk g l = unmarked l.table
