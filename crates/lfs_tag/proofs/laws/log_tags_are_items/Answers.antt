use Rattle.lfs_tag.proofs.Erased.{log_tags-items}
use Rattle.lfs_tag.proofs.laws.log_tags_are_items.Goals as goal

pub returns : goal.returns
returns c = λ block commits rest log. log_tags-items commits log.each
