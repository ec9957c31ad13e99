use Rattle.lfs_law.proofs.OutlinesFollow.{outlines_follow}
use Rattle.lfs_law.proofs.outline_laws.outlines_follow.Goals as goal

pub returns : goal.returns
returns c = outlines_follow
