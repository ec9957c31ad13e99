use Rattle.std.proofs.Common.{refl}
use Rattle.lfs_block.proofs.patch.Patch.of.Goals as goal

pub returns : goal.returns
returns c = refl
