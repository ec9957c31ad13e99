-- What is left decides what the whole gives.
use Rattle.std.proofs.Common.{length}
use Rattle.lfs_tag.specs.Reading.{log_from}
use Rattle.lfs_tag.proofs.ReadLoop.{ReadLoop}
use Rattle.lfs_tag.proofs.log.Log.read.Given as goal

abbrev pub invariant-loop-commit : goal.invariant-loop-commit
invariant-loop-commit l = ReadLoop (log_from l.initial.sum l.initial.last l.initial.rest) l.initial.rest l.commits l.sum l.last l.rest

abbrev pub decreases-loop-commit : goal.decreases-loop-commit
decreases-loop-commit l = length l.rest
