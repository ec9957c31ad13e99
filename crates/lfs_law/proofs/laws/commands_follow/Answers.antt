use Rattle.lfs_law.proofs.CommandsFollow.{commands_follow}
use Rattle.lfs_law.proofs.laws.commands_follow.Goals as goal

pub returns : goal.returns
returns c = commands_follow c.names_are_ordered.ensures
