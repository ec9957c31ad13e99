use Rattle.lfs_block.proofs.PatchLemmas.{kept-changes, kept-is_disk, kept-blocks}
use Rattle.lfs_block.proofs.patch_laws.kept_counts_change_their_blocks.Goals as goal

pub returns : goal.returns
returns c = record { changes = kept-changes; disk = kept-is_disk; blocks = kept-blocks }
