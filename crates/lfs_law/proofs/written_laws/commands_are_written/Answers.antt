use Rattle.lfs_law.proofs.CommandsWritten.{commands_are_written}
use Rattle.lfs_law.proofs.written_laws.commands_are_written.Goals as goal

pub returns : goal.returns
returns c =
    commands_are_written
    (record {
      chains = c.files_have_one_chain.ensures.chain;
      empty = c.files_have_one_chain.ensures.empty;
      long = c.contents_have_their_length.ensures;
      found = c.chains_stay_on_their_blocks.ensures.found;
      content = c.chains_stay_on_their_blocks.ensures.content;
    })
    c.kept_counts_change_their_blocks.ensures.disk c.kept_counts_change_their_blocks.ensures.blocks
    c.entries_are_cut_greedily.ensures.joined c.cuts_follow.ensures.cut
