use Rattle.std.proofs.Common.{drop}
use Rattle.lfs_meta.proofs.CuttingLoop.{IsCutTo}
use Rattle.lfs_meta.proofs.cutting.cut.Given as goal

abbrev pub invariant-loop-entry : goal.invariant-loop-entry
invariant-loop-entry l = IsCutTo l.room l.entries (drop l.entry-index l.entries) l.lengths.items l.taken l.len
