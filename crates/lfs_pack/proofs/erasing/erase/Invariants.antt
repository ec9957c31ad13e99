-- The blocks so far are erased, and others are as they were.
use Rattle.std.proofs.Common.{take}
use Rattle.lfs_pack.proofs.ErasedBlocks.{AreErasedSoFar}
use Rattle.lfs_pack.proofs.erasing.erase.Given as goal

abbrev pub invariant-each : goal.invariant-each
invariant-each l = AreErasedSoFar l.fn.image.disk l.image.disk (take l.block-index l.blocks)
