use Rattle.std.proofs.Common.{ap}
use Rattle.lfs_fs.specs.Directory.{Part}
use Rattle.lfs_fs.specs.Thread.{hard_to}
use Rattle.lfs_write.proofs.linking.hard_to.Goals as goal

pub returns : goal.returns
returns c = ap (λ (p : Part). hard_to p.pair) c.part.view_is
