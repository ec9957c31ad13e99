use Rattle.lfs_block.proofs.PatchLemmas.{flipped-is_patch, flipped-twice}
use Rattle.lfs_block.proofs.patch_laws.flipped_patches_are_patches.Goals as goal

pub returns : goal.returns
returns c = record { patch = flipped-is_patch; twice = flipped-twice }
