use Rattle.lfs_tag.proofs.Erased.{erased_block}
use Rattle.lfs_tag.proofs.laws.erased_block.Goals as goal

pub returns : goal.returns
returns c = erased_block
