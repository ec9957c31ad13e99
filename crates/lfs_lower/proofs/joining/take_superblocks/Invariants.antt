-- The parts behind are still to be gone through.
use Rattle.std.proofs.Common.{◌≡◌, ◌++◌, None, map, take, drop}
use Rattle.lfs_lower.specs.Joining.{last_in, stripped}
use Rattle.lfs_lower.proofs.joining.take_superblocks.Given as goal

abbrev pub invariant-loop-part : goal.invariant-loop-part
invariant-loop-part l = record {
  last : l.last ≡ last_in None (take l.part-index l.fn.parts.items);
  stripped : l.part-items ≡ map stripped (take l.part-index l.fn.parts.items) ++ drop l.part-index l.fn.parts.items;
}
