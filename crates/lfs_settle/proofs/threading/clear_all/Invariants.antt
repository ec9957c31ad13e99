-- The parts after it are still to be gone through.
use Rattle.std.proofs.Common.{◌≡◌, ◌++◌, map, take, drop}
use Rattle.lfs_settle.specs.Settled.{without_share}
use Rattle.lfs_settle.proofs.threading.clear_all.Given as goal

abbrev pub invariant-loop-part : goal.invariant-loop-part
invariant-loop-part l = l.part-items ≡ map without_share (take l.part-index l.fn.parts.items) ++ drop l.part-index l.fn.parts.items
