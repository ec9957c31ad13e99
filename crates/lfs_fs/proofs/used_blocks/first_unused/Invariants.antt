use Rattle.lfs_fs.specs.Used.{AreMarkedBelow}
use Rattle.lfs_fs.proofs.used_blocks.first_unused.Given as goal

abbrev pub invariant-loop-block : goal.invariant-loop-block
invariant-loop-block l = AreMarkedBelow l.block l.used
