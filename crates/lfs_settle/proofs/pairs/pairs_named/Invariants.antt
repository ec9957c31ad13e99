-- The pairs of the parts so far.
use Rattle.std.proofs.Common.{◌≡◌, take}
use Rattle.lfs_settle.specs.InStep.{pairs_named}
use Rattle.lfs_settle.proofs.pairs.pairs_named.Given as goal

abbrev pub invariant-loop-part : goal.invariant-loop-part
invariant-loop-part l = l.named.items ≡ pairs_named (take l.part-index l.parts)
