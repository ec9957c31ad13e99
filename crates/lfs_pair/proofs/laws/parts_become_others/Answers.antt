use Rattle.lfs_pair.proofs.DifferenceLemmas.{parts-become}
use Rattle.lfs_pair.proofs.laws.parts_become_others.Goals as goal

pub returns : goal.returns
returns c = parts-become
