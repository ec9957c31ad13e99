use Rattle.std.proofs.Common.{refl}
use Rattle.lfs_tag.proofs.Erased.{next_commit}
use Rattle.lfs_tag.proofs.laws.next_commit.Goals as goal

pub returns : goal.returns
returns c = λ block commits rest at d log erased e valid fits. next_commit block commits rest at d log erased e valid _ refl fits
