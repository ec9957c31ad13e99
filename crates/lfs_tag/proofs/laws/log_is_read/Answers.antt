use Rattle.lfs_tag.proofs.Logs.{log_of-is}
use Rattle.lfs_tag.proofs.laws.log_is_read.Goals as goal

pub returns : goal.returns
returns c = log_of-is
