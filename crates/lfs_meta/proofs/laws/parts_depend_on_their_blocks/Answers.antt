use Rattle.lfs_meta.proofs.FrameLemmas.{same_parts}
use Rattle.lfs_meta.proofs.laws.parts_depend_on_their_blocks.Goals as goal

pub returns : goal.returns
returns c = same_parts
