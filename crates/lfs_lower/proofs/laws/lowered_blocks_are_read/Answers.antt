use Rattle.lfs_lower.proofs.LoweredBlocks.{blocks_read, lives_read}
use Rattle.lfs_lower.proofs.SpelledBlocks.{LogLaws}
use Rattle.lfs_lower.proofs.laws.lowered_blocks_are_read.Goals as goal

pub returns-clause-blocks : goal.returns-clause-blocks
returns-clause-blocks c =
    let laws : LogLaws = record {
      first = c.first_commit.ensures;
      read = c.log_is_read.ensures;
      written = c.written_length.ensures;
      erased = c.erased_block.ensures;
    } in
    blocks_read laws

pub returns-clause-lives : goal.returns-clause-lives
returns-clause-lives c =
    let laws : LogLaws = record {
      first = c.first_commit.ensures;
      read = c.log_is_read.ensures;
      written = c.written_length.ensures;
      erased = c.erased_block.ensures;
    } in
    lives_read laws
