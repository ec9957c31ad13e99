-- The parts after it are still to be gone through.
use Rattle.std.proofs.Common.{◌≡◌, ◌++◌, map, take, drop}
use Rattle.lfs_settle.specs.Ended.{first_moved}
use Rattle.lfs_settle.specs.Moved.{unmoved}
use Rattle.lfs_settle.proofs.moved.unmove.Given as goal

abbrev pub invariant-loop-part : goal.invariant-loop-part
invariant-loop-part l = record {
  left : l.part-items ≡ map (unmoved l.state) (take l.part-index l.fn.parts.items) ++ drop l.part-index l.fn.parts.items;
  moved : l.moved ≡ first_moved l.state (take l.part-index l.fn.parts.items);
}
