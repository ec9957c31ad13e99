use Rattle.std.proofs.Common.{arith, tests}
use Rattle.lfs_tag.proofs.tag.Tag.data_len.Goals as goal

pub returns-else-self-eq-DELETED : goal.returns-else-self-eq-DELETED
returns-else-self-eq-DELETED c = grind (arith, tests)
