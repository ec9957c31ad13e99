use Rattle.lfs_fs.proofs.FrontLemmas.{fronts_begin_each_other}
use Rattle.lfs_fs.proofs.laws.fronts_begin_each_other.Goals as goal

pub returns : goal.returns
returns c = fronts_begin_each_other
