-- The pairs so far hold their parts.
use Rattle.std.proofs.Common.{take}
use Rattle.lfs_lower.specs.Joining.{ArePartsPut}
use Rattle.lfs_lower.proofs.putting.put_parts.Given as goal

abbrev pub invariant-loop-part : goal.invariant-loop-part
invariant-loop-part g l = ArePartsPut (g.B.Blocks.disk l.fn.image) (g.B.Blocks.disk l.image) (take l.part-index l.parts)
