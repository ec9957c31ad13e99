use Rattle.lfs_journal.proofs.Lengths.{journals_are_short}
use Rattle.lfs_journal.proofs.laws.journals_are_short.Goals as goal

pub returns : goal.returns
returns c = journals_are_short
