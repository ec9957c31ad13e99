-- The names so far lead to the directory of the pair.
use Rattle.lfs_draft.proofs.ReachSteps.{LeadTo}
use Rattle.lfs_draft.proofs.reaching.reach.Given as goal

abbrev pub invariant-each : goal.invariant-each
invariant-each l = LeadTo l.outline l.names l.at l.pair
