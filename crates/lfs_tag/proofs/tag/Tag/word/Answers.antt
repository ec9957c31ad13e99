use Rattle.std.proofs.Common.{arith}
use Rattle.lfs_tag.proofs.tag.Tag.word.Goals as goal

pub returns : goal.returns
returns c = omega arith
