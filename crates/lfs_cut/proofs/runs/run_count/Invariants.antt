-- The entries behind are left.
use Rattle.std.proofs.Common.{length, drop}
use Rattle.lfs_meta.specs.Runs.{runs_after}
use Rattle.lfs_fs.specs.Weight.{weight}
use Rattle.lfs_law.proofs.RunCounts.{AreBegun}
use Rattle.lfs_cut.proofs.runs.run_count.Given as goal

abbrev pub invariant-each : goal.invariant-each
invariant-each l =
    AreBegun (length (runs_after weight l.room l.taken-2 l.len-2 l.entries)) l.room l.entry-index l.count l.taken l.len
    (drop l.entry-index l.entries)
