-- A slice of bytes has bytes.
use Rattle.std.proofs.Common.{arith}
use Rattle.lfs_pair.proofs.appending.log_stands.Goals as goal

pub returns : goal.returns
returns c = c.blocks_have_a_log.ensures c.args.block.now c.requires (λ i. omega (arith, c.type_inv.block i))
