use Rattle.std.proofs.Common.{arith, tests}
use Rattle.lfs_block.proofs.geometry.geometry_ok.Goals as goal

pub returns-then-contains-2-clause-test : goal.returns-then-contains-2-clause-test
returns-then-contains-2-clause-test c = grind (arith, tests)
