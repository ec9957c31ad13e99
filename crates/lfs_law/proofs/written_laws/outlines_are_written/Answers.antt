use Rattle.lfs_law.proofs.OutlinesWritten.{outlines_are_written, new_pairs_are_filled, pairs_are_changed}
use Rattle.lfs_law.proofs.written_laws.outlines_are_written.Goals as goal

pub returns-clause-written : goal.returns-clause-written
returns-clause-written c = outlines_are_written c.kept_counts_change_their_blocks.ensures.disk c.kept_counts_change_their_blocks.ensures.blocks

pub returns-clause-filled : goal.returns-clause-filled
returns-clause-filled c = new_pairs_are_filled c.kept_counts_change_their_blocks.ensures.disk
    c.kept_counts_change_their_blocks.ensures.blocks

pub returns-clause-changed : goal.returns-clause-changed
returns-clause-changed c = pairs_are_changed c.kept_counts_change_their_blocks.ensures.blocks
