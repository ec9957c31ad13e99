use Rattle.lfs_block.proofs.PatchLemmas.{changed-is_disk, changed-blocks}
use Rattle.lfs_block.proofs.patch_laws.changes_change_their_blocks.Goals as goal

pub returns : goal.returns
returns c = record { disk = changed-is_disk; blocks = changed-blocks }
