use Rattle.lfs_block.proofs.DiskLemmas.{equal-by_blocks}
use Rattle.lfs_block.proofs.patch_laws.images_are_their_blocks.Goals as goal

pub returns : goal.returns
returns c = equal-by_blocks
