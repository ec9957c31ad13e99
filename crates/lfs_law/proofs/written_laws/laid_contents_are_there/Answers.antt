use Rattle.lfs_law.proofs.LaidContents.{laid_are_there}
use Rattle.lfs_law.proofs.written_laws.laid_contents_are_there.Goals as goal

pub returns : goal.returns
returns c =
    laid_are_there c.laid_blocks_are_chains.ensures.found c.laid_blocks_are_chains.ensures.content
    c.kept_counts_change_their_blocks.ensures.disk
    c.kept_counts_change_their_blocks.ensures.blocks
