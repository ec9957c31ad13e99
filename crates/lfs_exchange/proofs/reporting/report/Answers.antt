-- The status is the fault's.
use Rattle.lfs_exchange.proofs.reporting.report.Goals as goal

pub returns-clause-status : goal.returns-clause-status
returns-clause-status g c = c.status.ensures
