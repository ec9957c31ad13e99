use Rattle.std.proofs.Common.{arith}
use Rattle.std.proofs.lemmas.Bool.Decides.{nat_tests}
use Rattle.lfs_command.proofs.contents_blocks.data_count.Goals as goal

pub returns-then-len-inline_limit : goal.returns-then-len-inline_limit
returns-then-len-inline_limit c = grind (arith, nat_tests)

pub returns-else-len-inline_limit : goal.returns-else-len-inline_limit
returns-else-len-inline_limit c = grind (arith, nat_tests)
