use Rattle.lfs_settle.proofs.NothingEnded.{nothing_ended_stays}
use Rattle.lfs_settle.proofs.laws.nothing_ended_stays.Goals as goal

pub returns : goal.returns
returns c = nothing_ended_stays
