use Rattle.std.proofs.Common.{◌∙◌}
use Rattle.lfs_adopt.proofs.Filled.{empty_is}
use Rattle.lfs_adopt.proofs.tidied_parts.is_empty.Goals as goal

pub returns : goal.returns
returns c = c.is_empty.ensures ∙ empty_is c.args.entries.now
