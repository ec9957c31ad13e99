-- Eight bytes and eight are sixteen.
use Rattle.lfs_block.proofs.ChecksumLemmas.{add-sixteen}
use Rattle.lfs_block.proofs.checksum.add_sixteen.Goals as goal

pub returns : goal.returns
returns c = add-sixteen c.args.checksum c.args.first.now c.args.second.now _ _ c.told-second c.eight_shifted-2.ensures c.eight_shifted.ensures
