use Rattle.lfs_block.proofs.PatchLemmas.{grown-is_kept}
use Rattle.lfs_block.proofs.patch_laws.grown_images_keep_their_count.Goals as goal

pub returns : goal.returns
returns c = grown-is_kept
