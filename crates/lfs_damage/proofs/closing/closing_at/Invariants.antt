-- What is left decides what the whole gives.
use Rattle.std.proofs.Common.{◌≡◌, length}
use Rattle.lfs_damage.specs.Damage.{closing_at}
use Rattle.lfs_damage.proofs.closing.closing_at.Given as goal

abbrev pub invariant-loop-found : goal.invariant-loop-found
invariant-loop-found l = closing_at l.sum l.prev l.rest ≡ closing_at l.fn.sum l.fn.prev l.fn.bytes

abbrev pub decreases-loop-found : goal.decreases-loop-found
decreases-loop-found l = length l.rest
