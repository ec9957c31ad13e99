-- A text of some length has a byte.
use Rattle.std.proofs.Common.{ap, not, ◌∙◌}
use Rattle.lfs_listing.proofs.MergeLemmas.{some_length}
use Rattle.lfs_listing.proofs.differing.is_some_text.Goals as goal

pub returns : goal.returns
returns c = ap not c.is_empty.ensures ∙ some_length c.args.text.now
