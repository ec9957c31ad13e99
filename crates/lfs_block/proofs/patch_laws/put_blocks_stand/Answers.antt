use Rattle.lfs_block.proofs.PutLemmas.{block_of-put, block_of-put_other, put-is_disk}
use Rattle.lfs_block.proofs.patch_laws.put_blocks_stand.Goals as goal

pub returns : goal.returns
returns c = record { block = block_of-put; others = block_of-put_other; disk = put-is_disk }
