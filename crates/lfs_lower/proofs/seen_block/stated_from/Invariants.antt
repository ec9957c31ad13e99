-- What is left decides what the whole gives.
use Rattle.std.proofs.Common.{◌≡◌, length}
use Rattle.lfs_lower.specs.Commits.{commits_from}
use Rattle.lfs_lower.specs.Told.{stated_behind, stated_in}
use Rattle.lfs_lower.proofs.seen_block.stated_from.Given as goal

abbrev pub invariant-loop-commit : goal.invariant-loop-commit
invariant-loop-commit l =
    stated_behind l.is_there l.told (commits_from l.sum l.prev l.rest) ≡ stated_in (commits_from l.fn.sum l.fn.prev l.fn.bytes)

abbrev pub decreases-loop-commit : goal.decreases-loop-commit
decreases-loop-commit l = length l.rest
