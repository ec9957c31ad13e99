-- The second path begins with the names of the first, and has more.
use Rattle.std.proofs.Common.{◌∙◌}
use Rattle.lfs_draft.proofs.PathsBelow.{begins_below, not_below}
use Rattle.lfs_draft.proofs.judging.lies_below.Goals as goal

pub returns-then-to-from : goal.returns-then-to-from
returns-then-to-from c = c.starts_with.ensures.value ∙ begins_below c.args.from.now c.args.to.now c.if-to-from.true

pub returns-else-to-from : goal.returns-else-to-from
returns-else-to-from c = not_below c.args.from.now c.args.to.now c.if-to-from.false
