-- A pair is its first and its second.
use Rattle.std.proofs.Common.{◌∙◌}
use Rattle.lfs_block.proofs.ChecksumLemmas.{crc-pair}
use Rattle.lfs_block.proofs.checksum.add_pair.Goals as goal

pub returns : goal.returns
returns c = c.add_sixteen.ensures ∙ crc-pair c.args.checksum c.args.pair.now c.told-pair
