use Rattle.std.proofs.Common.{◌≡◌}
use Rattle.lfs_file.specs.Laying.{laid_pointers}
use Rattle.lfs_file.proofs.laying.filled.Given as goal

-- the pointers so far
abbrev pub invariant-loop-i : goal.invariant-loop-i
invariant-loop-i l = l.block.items ≡ laid_pointers l.blocks l.n l.i
