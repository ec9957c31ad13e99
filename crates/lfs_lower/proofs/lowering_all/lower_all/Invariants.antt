use Rattle.lfs_lower.specs.Through.{IsLoweredBelow}
use Rattle.lfs_lower.proofs.lowering_all.lower_all.Given as goal

-- the blocks so far
abbrev pub invariant-loop-number : goal.invariant-loop-number
invariant-loop-number l = IsLoweredBelow l.fn.image.disk l.image.disk l.number
