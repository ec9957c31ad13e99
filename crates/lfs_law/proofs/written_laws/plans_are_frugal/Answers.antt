use Rattle.lfs_law.proofs.FrugalPlans.{plans_are_frugal}
use Rattle.lfs_law.proofs.written_laws.plans_are_frugal.Goals as goal

pub returns : goal.returns
returns c = plans_are_frugal
