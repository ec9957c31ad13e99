use Rattle.std.proofs.Common.{ap, sym}
use Rattle.lfs_command.specs.AskedFor.{OnNames, named_command}
use Rattle.lfs_command.specs.Need.{directory_blocks}
use Rattle.lfs_command.proofs.made_blocks.directory_blocks.Goals as goal

pub returns-in-Mkdir : goal.returns-in-Mkdir
returns-in-Mkdir c = ap (λ (command : OnNames). directory_blocks (named_command command)) (sym c.in-Mkdir.is)
