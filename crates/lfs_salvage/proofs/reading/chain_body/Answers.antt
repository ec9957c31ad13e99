-- The blocks of a chain are the disk's.
use Rattle.lfs_salvage.proofs.reading.chain_body.Goals as goal

pub returns-clause-blocks : goal.returns-clause-blocks
returns-clause-blocks g c = (c.in-Ok.ensures.found.below, c.blocks_of_chains_differ.ensures.fit _ _ _ _ c.in-Ok.ensures.found)
