use Rattle.std.proofs.Common.{ap}
use Rattle.lfs_command.specs.Clean.{cleaned}
use Rattle.lfs_cut.proofs.cleaning.clean_part.Goals as goal

pub returns : goal.returns
returns c = ap cleaned c.part.view_is
