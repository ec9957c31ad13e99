-- The table of the pairs after.
use Rattle.std.proofs.Common.{◌≤◌, drop, length}
use Rattle.lfs_settle.specs.Steps.{FindsFirst}
use Rattle.lfs_settle.proofs.steps.table_of.Given as goal

abbrev pub invariant-loop-index : goal.invariant-loop-index
invariant-loop-index l = record { within : l.index ≤ length l.named; finds : FindsFirst (drop l.index l.named) l.table.entries }

abbrev pub decreases-loop-index : goal.decreases-loop-index
decreases-loop-index l = l.index
