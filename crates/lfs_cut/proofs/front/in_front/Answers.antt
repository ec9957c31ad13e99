-- All are in front where there are fewer.
use Rattle.lfs_cut.proofs.FrontLemmas.{taken_within}
use Rattle.lfs_cut.proofs.front.in_front.Goals as goal

pub returns : goal.returns
returns c = taken_within c.args.front c.min.result c.args.directories.now c.min.ensures
