-- What is left decides what the whole gives.
use Rattle.std.proofs.Common.{◌≡◌, length}
use Rattle.lfs_damage.specs.Damage.{end_from}
use Rattle.lfs_damage.proofs.EndLoops.{end_behind}
use Rattle.lfs_damage.proofs.ended.end_from.Given as goal

abbrev pub invariant-loop-commit : goal.invariant-loop-commit
invariant-loop-commit l = end_behind l.has_commits (end_from l.sum l.prev l.rest) ≡ end_from l.fn.sum l.fn.prev l.fn.bytes

abbrev pub decreases-loop-commit : goal.decreases-loop-commit
decreases-loop-commit l = length l.rest
