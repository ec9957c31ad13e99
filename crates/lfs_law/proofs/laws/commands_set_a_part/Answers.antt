use Rattle.lfs_law.proofs.CommandsSet.{commands_set_a_part}
use Rattle.lfs_law.proofs.laws.commands_set_a_part.Goals as goal

pub returns : goal.returns
returns c = commands_set_a_part c.names_are_ordered.ensures
