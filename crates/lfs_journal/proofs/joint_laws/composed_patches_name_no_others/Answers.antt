use Rattle.lfs_journal.proofs.NameLemmas.{composed-names}
use Rattle.lfs_journal.proofs.joint_laws.composed_patches_name_no_others.Goals as goal

pub returns : goal.returns
returns c = composed-names
