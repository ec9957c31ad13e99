use Rattle.lfs_law.proofs.NamedBlocks.{blocks_are_taken, blocks_are_written_once}
use Rattle.lfs_law.proofs.written_laws.written_blocks_are_taken.Goals as goal

pub returns-clause-taken : goal.returns-clause-taken
returns-clause-taken c = blocks_are_taken

pub returns-clause-once : goal.returns-clause-once
returns-clause-once c = blocks_are_written_once
