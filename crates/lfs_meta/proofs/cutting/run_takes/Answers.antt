use Rattle.std.proofs.Common.{arith, tests}
use Rattle.lfs_meta.proofs.cutting.run_takes.Goals as goal

pub returns-else-taken-next : goal.returns-else-taken-next
returns-else-taken-next c = grind (arith, tests)
