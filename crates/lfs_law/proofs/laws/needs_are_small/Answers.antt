use Rattle.lfs_law.proofs.NeedsSmall.{needs_are_small}
use Rattle.lfs_law.proofs.laws.needs_are_small.Goals as goal

pub returns : goal.returns
returns c = needs_are_small c.names_are_ordered.ensures
