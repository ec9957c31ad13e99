use Rattle.lfs_law.proofs.MadeBytes.{held_bytes_are_made}
use Rattle.lfs_law.proofs.written_laws.held_superblocks_are_made.Goals as goal

pub returns : goal.returns
returns c = held_bytes_are_made c.live_blocks_are_read.ensures c.blocks_have_a_log.ensures
