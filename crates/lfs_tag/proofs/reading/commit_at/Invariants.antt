-- What is left decides what the whole gives.
use Rattle.std.proofs.Common.{length}
use Rattle.lfs_tag.proofs.Covered.{Left}
use Rattle.lfs_tag.proofs.reading.commit_at.Given as goal

abbrev pub invariant-loop-found : goal.invariant-loop-found
invariant-loop-found l = Left l.fn.sum l.fn.prev l.fn.bytes l.prev l.rest

abbrev pub decreases-loop-found : goal.decreases-loop-found
decreases-loop-found l = length l.rest
