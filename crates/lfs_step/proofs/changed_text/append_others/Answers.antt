-- A number more.
use Rattle.std.proofs.Common.{arith}
use Rattle.std.proofs.lemmas.Grind.{common_steps}
use Rattle.lfs_step.proofs.changed_text.append_others.Goals as goal

pub each-preserved : goal.each-preserved
each-preserved c = grind (arith, common_steps)
