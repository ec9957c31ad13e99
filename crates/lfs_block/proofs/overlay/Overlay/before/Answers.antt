use Rattle.std.proofs.Common.{refl}
use Rattle.lfs_block.proofs.overlay.Overlay.before.Goals as goal

pub returns : goal.returns
returns g c = refl
