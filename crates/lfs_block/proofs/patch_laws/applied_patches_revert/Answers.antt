use Rattle.lfs_block.proofs.PatchLemmas.{applied-agrees, applied-back}
use Rattle.lfs_block.proofs.patch_laws.applied_patches_revert.Goals as goal

pub returns : goal.returns
returns c = record { agrees = applied-agrees; back = applied-back }
