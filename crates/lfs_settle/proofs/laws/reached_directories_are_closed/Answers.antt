use Rattle.lfs_settle.proofs.ReachedGroups.{closed_are_reached, named_are_reached}
use Rattle.lfs_settle.proofs.laws.reached_directories_are_closed.Goals as goal

pub returns-clause-named : goal.returns-clause-named
returns-clause-named c = named_are_reached

pub returns-clause-closed : goal.returns-clause-closed
returns-clause-closed c = closed_are_reached
