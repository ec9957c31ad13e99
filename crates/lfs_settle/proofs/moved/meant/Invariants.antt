-- The parts so far that the move may mean.
use Rattle.std.proofs.Common.{◌≡◌, ◌≤◌, take}
use Rattle.std.specs.Prelude.{count_by}
use Rattle.lfs_settle.specs.Moved.{means}
use Rattle.lfs_settle.proofs.moved.meant.Given as goal

abbrev pub invariant-loop-part : goal.invariant-loop-part
invariant-loop-part l = record {
  is : l.count ≡ count_by (λ p. means l.state p.0) (take l.part-index l.parts);
  most : l.count ≤ l.part-index;
}
