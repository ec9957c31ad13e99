use Rattle.lfs_change.proofs.GrowthLemmas.{bytes_grow, bytes_grow_on_the_kept}
use Rattle.lfs_change.proofs.laws.journals_of_bytes_grow_by_the_need.Goals as goal

pub returns-clause-complete : goal.returns-clause-complete
returns-clause-complete c = bytes_grow c.journals_grow_by_the_need.ensures.complete

pub returns-clause-kept : goal.returns-clause-kept
returns-clause-kept c = bytes_grow_on_the_kept c.journals_grow_by_the_need.ensures.kept
