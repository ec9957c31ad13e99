use Rattle.std.proofs.Common.{ap}
use Rattle.lfs_block.specs.Disk.{Disk}
use Rattle.lfs_block.proofs.lengthened.LengthenedBlocks.count.Goals as goal

pub returns : goal.returns
returns g c = ap (λ (d : Disk). d.count) c.self.view_is
