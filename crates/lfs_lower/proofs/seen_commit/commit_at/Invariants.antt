-- What is left decides what the whole gives.
use Rattle.std.proofs.Common.{◌≡◌, length, option_map}
use Rattle.lfs_lower.specs.Commits.{later_at}
use Rattle.lfs_lower.specs.Seen.{later_commit_seen}
use Rattle.lfs_lower.proofs.seen_commit.commit_at.Given as goal

abbrev pub invariant-loop-found : goal.invariant-loop-found
invariant-loop-found l =
    option_map (later_commit_seen l.told) (later_at l.sum l.prev l.rest) ≡ option_map (later_commit_seen l.fn.told) (later_at l.fn.sum l.fn.prev l.fn.bytes)

abbrev pub decreases-loop-found : goal.decreases-loop-found
decreases-loop-found l = length l.rest
