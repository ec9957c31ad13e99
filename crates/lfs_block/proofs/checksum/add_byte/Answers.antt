-- The table's word for the low byte, and the rest shifted, are the checksum after one more byte.
use Rattle.std.proofs.Common.{arith}
use Rattle.lfs_block.proofs.ChecksumLemmas.{add-byte}
use Rattle.lfs_block.proofs.checksum.add_byte.Goals as goal

pub returns : goal.returns
returns c = add-byte c.args.checksum c.args.byte _ (omega arith) c.shifted.ensures
