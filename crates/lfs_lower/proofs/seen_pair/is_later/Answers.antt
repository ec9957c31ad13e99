use Rattle.std.proofs.Common.{arith, tests}
use Rattle.lfs_lower.proofs.seen_pair.is_later.Goals as goal

pub returns-then-ahead-ge1 : goal.returns-then-ahead-ge1
returns-then-ahead-ge1 c = grind (arith, tests)

pub returns-else-ahead-ge1 : goal.returns-else-ahead-ge1
returns-else-ahead-ge1 c = grind (arith, tests)
