use Rattle.lfs_law.proofs.OneWay.{commands_lead_one_way}
use Rattle.lfs_law.proofs.laws.commands_lead_one_way.Goals as goal

pub returns : goal.returns
returns c = commands_lead_one_way
