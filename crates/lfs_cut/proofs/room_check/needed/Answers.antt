use Rattle.std.proofs.Common.{arith}
use Rattle.std.proofs.lemmas.Bool.Decides.{nat_tests}
use Rattle.std.proofs.lemmas.Grind.{common_steps}
use Rattle.lfs_cut.proofs.room_check.needed.Goals as goal

pub returns-then-need-free-clause-refused : goal.returns-then-need-free-clause-refused
returns-then-need-free-clause-refused c = grind (arith, nat_tests, common_steps)
