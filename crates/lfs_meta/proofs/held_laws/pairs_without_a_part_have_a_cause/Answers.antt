use Rattle.lfs_meta.proofs.PartlessLemmas.{partless}
use Rattle.lfs_meta.proofs.held_laws.pairs_without_a_part_have_a_cause.Goals as goal

pub returns : goal.returns
returns c = partless
