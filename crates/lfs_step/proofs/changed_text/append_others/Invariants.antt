-- What is told and what is left are all.
use Rattle.std.proofs.Common.{◌≡◌, ◌++◌, length}
use Rattle.lfs_step.specs.ChangedText.{others_listed}
use Rattle.lfs_step.proofs.changed_text.append_others.Given as goal

abbrev pub invariant-each : goal.invariant-each
invariant-each l = l.text.items ++ others_listed l.left ≡ l.fn.text.items ++ others_listed l.fn.others

abbrev pub decreases-each : goal.decreases-each
decreases-each l = length l.left
