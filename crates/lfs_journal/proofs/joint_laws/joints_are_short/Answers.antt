use Rattle.lfs_journal.proofs.JointLemmas.{composed-short, together-short}
use Rattle.lfs_journal.proofs.joint_laws.joints_are_short.Goals as goal

pub returns : goal.returns
returns c = record { two = composed-short; all = together-short }
