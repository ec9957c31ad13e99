-- What is left decides what the whole gives.
use Rattle.std.proofs.Common.{length}
use Rattle.lfs_lower.specs.Commits.{later_at}
use Rattle.lfs_lower.proofs.KeptLemmas.{IsReadTo}
use Rattle.lfs_lower.proofs.commit.read_commit.Given as goal

abbrev pub invariant-loop-found : goal.invariant-loop-found
invariant-loop-found l =
    IsReadTo l.fn.in_root l.fn.edits.items l.edits.items (later_at l.sum l.prev l.rest) (later_at l.fn.sum l.fn.prev l.fn.bytes)

abbrev pub decreases-loop-found : goal.decreases-loop-found
decreases-loop-found l = length l.rest
