use Rattle.lfs_serve.proofs.RequestsLead.{requests_lead_on}
use Rattle.lfs_serve.proofs.laws.requests_lead_on.Goals as goal

pub returns : goal.returns
returns c = requests_lead_on c.journals_are_short.ensures c.steps_leave_histories.ensures
