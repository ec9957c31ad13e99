use Rattle.lfs_tag.proofs.TagCounts.{log_tags-few}
use Rattle.lfs_tag.proofs.laws.log_tags_are_few.Goals as goal

pub returns : goal.returns
returns c = log_tags-few
