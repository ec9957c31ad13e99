use Rattle.lfs_law.proofs.LargeParts.{large_is_the_same}
use Rattle.lfs_law.proofs.OutlinesCarried.{outlines_are_carried}
use Rattle.lfs_law.proofs.outline_laws.outlines_are_carried.Goals as goal

pub returns-clause-carried : goal.returns-clause-carried
returns-clause-carried c = outlines_are_carried c.need_is_exact.ensures.same

pub returns-clause-large : goal.returns-clause-large
returns-clause-large c = large_is_the_same
