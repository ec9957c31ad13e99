use Rattle.std.proofs.Common.{refl}
use Rattle.lfs_tag.proofs.Erased.{first_commit}
use Rattle.lfs_tag.proofs.laws.first_commit.Goals as goal

pub returns : goal.returns
returns c = λ block d valid fits erased. first_commit block d valid _ refl fits erased
