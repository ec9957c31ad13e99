use Rattle.lfs_tag.proofs.Logs.{is_log}
use Rattle.lfs_tag.proofs.laws.blocks_have_a_log.Goals as goal

pub returns : goal.returns
returns c = is_log
