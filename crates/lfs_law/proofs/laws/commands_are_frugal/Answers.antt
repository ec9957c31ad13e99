use Rattle.lfs_law.proofs.Frugal.{commands_are_frugal, cuts_are_frugal}
use Rattle.lfs_law.proofs.laws.commands_are_frugal.Goals as goal

pub returns-clause-command : goal.returns-clause-command
returns-clause-command c = commands_are_frugal

pub returns-clause-cut : goal.returns-clause-cut
returns-clause-cut c = cuts_are_frugal
