-- A tag that names is refused for its length, where it has an id.
use Rattle.std.proofs.Common.{arith, tests}
use Rattle.lfs_meta.specs.Action.{is_bad}
use Rattle.lfs_meta.proofs.action.Action.is_bad.Goals as goal

pub returns-else-tag-eq-NO_ID-2 : goal.returns-else-tag-eq-NO_ID-2
unfolding is_bad
returns-else-tag-eq-NO_ID-2 c = grind (arith, tests)
