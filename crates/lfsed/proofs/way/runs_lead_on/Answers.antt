use Rattle.lfsed.proofs.WayLemmas.{runs_lead_on}
use Rattle.lfsed.proofs.way.runs_lead_on.Goals as goal

pub returns : goal.returns
returns c = runs_lead_on c.requests_lead_on.ensures
