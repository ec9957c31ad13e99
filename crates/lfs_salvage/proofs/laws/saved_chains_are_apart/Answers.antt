-- The blocks of a chain differ, and it is saved where none is in use.
use Rattle.lfs_salvage.proofs.ApartLemmas.{chains_apart}
use Rattle.lfs_salvage.proofs.laws.saved_chains_are_apart.Goals as goal

pub returns : goal.returns
returns c = chains_apart c.blocks_of_chains_differ.ensures.differ
