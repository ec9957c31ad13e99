use Rattle.std.proofs.Common.{arith}
use Rattle.std.proofs.lemmas.Bool.Decides.{nat_tests}
use Rattle.std.proofs.lemmas.Grind.{common_steps}
use Rattle.lfs_draft.proofs.judging.judge_grow.Goals as goal

pub returns-then-geometry_ok-clause-unrefused : goal.returns-then-geometry_ok-clause-unrefused
returns-then-geometry_ok-clause-unrefused c = grind (arith, nat_tests, common_steps)
