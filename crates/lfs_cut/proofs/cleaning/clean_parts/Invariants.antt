-- The parts behind are still to be gone through.
use Rattle.std.proofs.Common.{◌≡◌, ◌++◌, map, take, drop}
use Rattle.lfs_command.specs.Clean.{cleaned}
use Rattle.lfs_cut.proofs.cleaning.clean_parts.Given as goal

abbrev pub invariant-loop-part : goal.invariant-loop-part
invariant-loop-part l = l.part-items ≡ map cleaned (take l.part-index l.fn.parts.items) ++ drop l.part-index l.fn.parts.items
