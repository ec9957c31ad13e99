use Rattle.lfs_journal.proofs.JointLemmas.{together-more}
use Rattle.lfs_journal.proofs.joint_laws.joints_go_on.Goals as goal

pub returns : goal.returns
returns c = together-more
