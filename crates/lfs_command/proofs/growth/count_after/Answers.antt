use Rattle.std.proofs.Common.{ap, sym}
use Rattle.lfs_command.specs.AskedFor.{OnNames, named_command}
use Rattle.lfs_command.specs.Growth.{count_after}
use Rattle.lfs_command.proofs.growth.count_after.Goals as goal

pub returns-in-Grow : goal.returns-in-Grow
returns-in-Grow c = ap (λ (command : OnNames). count_after (named_command command) c.args.count) (sym c.in-Grow.is)
