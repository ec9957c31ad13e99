use Rattle.std.proofs.Common.{arith}
use Rattle.lfs_tag.proofs.tag.Tag.decode.Goals as goal

pub returns-then-plain : goal.returns-then-plain
returns-then-plain c = omega arith
