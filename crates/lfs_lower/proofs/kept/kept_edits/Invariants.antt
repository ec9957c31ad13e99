-- What is left decides what the whole gives.
use Rattle.std.proofs.Common.{◌≡◌, length}
use Rattle.lfs_tag.specs.Writing.{items}
use Rattle.lfs_lower.specs.Commits.{commits_from}
use Rattle.lfs_lower.specs.Spelled.{lowered_tags}
use Rattle.lfs_lower.proofs.KeptLemmas.{kept_of}
use Rattle.lfs_lower.proofs.kept.kept_edits.Given as goal

abbrev pub invariant-loop-edits : goal.invariant-loop-edits
invariant-loop-edits l =
    kept_of l.in_root l.is_there (items l.edits.items) (commits_from l.sum l.prev l.rest) ≡ lowered_tags l.in_root l.block

abbrev pub decreases-loop-edits : goal.decreases-loop-edits
decreases-loop-edits l = length l.rest
