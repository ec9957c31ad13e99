use Rattle.lfs_fs.proofs.AlikeLemmas.{same_readings_hold_the_same, pairs_are_of_parts}
use Rattle.lfs_fs.proofs.laws.same_readings_hold_the_same.Goals as goal

pub returns-clause-same : goal.returns-clause-same
returns-clause-same c = same_readings_hold_the_same

pub returns-clause-pairs : goal.returns-clause-pairs
returns-clause-pairs c = pairs_are_of_parts
