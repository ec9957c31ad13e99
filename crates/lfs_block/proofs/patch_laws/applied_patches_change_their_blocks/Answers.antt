use Rattle.lfs_block.proofs.PatchLemmas.{applied-is_disk, applied-blocks}
use Rattle.lfs_block.proofs.patch_laws.applied_patches_change_their_blocks.Goals as goal

pub returns : goal.returns
returns c = record { disk = applied-is_disk; blocks = applied-blocks }
