-- An entry weighs at most 264,708 bytes.
use Rattle.std.proofs.Common.{◌≡◌, ◌≤◌, ◌*◌, take}
use Rattle.lfs_meta.specs.Weighing.{weights}
use Rattle.lfs_pair.proofs.writing.weights.Given as goal

abbrev pub invariant-loop-entry : goal.invariant-loop-entry
invariant-loop-entry l = record { is : l.sum ≡ weights (take l.entry-index l.entries); most : l.sum ≤ 264708 * l.entry-index }
