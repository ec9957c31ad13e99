use Rattle.lfs_block.proofs.PatchLemmas.{reverted-is_disk, reverted-agrees, reverted-again}
use Rattle.lfs_block.proofs.patch_laws.reverted_patches_apply_again.Goals as goal

pub returns : goal.returns
returns c = record { disk = reverted-is_disk; agrees = reverted-agrees; again = reverted-again }
