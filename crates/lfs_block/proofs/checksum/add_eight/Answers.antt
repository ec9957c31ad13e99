-- Nothing is shifted out.
use Rattle.lfs_block.proofs.ChecksumLemmas.{none-shifted}
use Rattle.lfs_block.proofs.checksum.add_eight.Goals as goal

pub returns : goal.returns
returns c = none-shifted _ _ c.eight_shifted.ensures
