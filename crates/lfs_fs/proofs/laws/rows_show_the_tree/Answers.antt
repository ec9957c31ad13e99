use Rattle.lfs_fs.proofs.RowShownLemmas.{rows_show_the_tree}
use Rattle.lfs_fs.proofs.laws.rows_show_the_tree.Goals as goal

pub returns : goal.returns
returns c = rows_show_the_tree c.files_have_one_chain.ensures.chain c.contents_have_their_length.ensures
    c.blocks_of_chains_differ.ensures.differ c.blocks_of_chains_differ.ensures.fit
