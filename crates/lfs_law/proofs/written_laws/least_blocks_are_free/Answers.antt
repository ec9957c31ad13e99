use Rattle.lfs_law.proofs.LeastBlocks.{least_are_free}
use Rattle.lfs_law.proofs.written_laws.least_blocks_are_free.Goals as goal

pub returns : goal.returns
returns c = least_are_free
