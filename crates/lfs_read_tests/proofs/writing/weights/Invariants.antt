use Rattle.std.proofs.Common.{◌≡◌, ◌≤◌, ◌*◌, take}
use Rattle.lfs_meta.specs.Weighing.{weights}
use Rattle.lfs_read_tests.proofs.writing.weights.Given as goal

abbrev pub invariant-loop-entry : goal.invariant-loop-entry
invariant-loop-entry l = record {
  sum : l.sum ≡ weights (take l.entry-index l.entries);
  small : l.sum ≤ l.entry-index * 264708;
}
