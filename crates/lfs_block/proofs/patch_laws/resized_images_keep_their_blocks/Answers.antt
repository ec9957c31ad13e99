use Rattle.lfs_block.proofs.ResizeLemmas.{resized-is_disk, resized-blocks, resized-stays}
use Rattle.lfs_block.proofs.patch_laws.resized_images_keep_their_blocks.Goals as goal

pub returns : goal.returns
returns c = record { disk = resized-is_disk; blocks = resized-blocks; stays = resized-stays }
