use Rattle.std.proofs.Common.{arith}
use Rattle.lfs_block.proofs.word.little_word.Goals as goal

pub returns : goal.returns
returns c = omega (arith, c.read_u32.ensures)
