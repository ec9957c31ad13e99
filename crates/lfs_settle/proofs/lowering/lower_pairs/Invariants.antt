-- The pairs so far are lowered.
use Rattle.std.proofs.Common.{take}
use Rattle.lfs_settle.specs.Lowered.{ArePairsLowered}
use Rattle.lfs_settle.proofs.lowering.lower_pairs.Given as goal

abbrev pub invariant-loop-pair : goal.invariant-loop-pair
invariant-loop-pair g l = ArePairsLowered (g.B.Blocks.disk l.fn.image) (g.B.Blocks.disk l.image) (take l.pair-index l.pairs)
