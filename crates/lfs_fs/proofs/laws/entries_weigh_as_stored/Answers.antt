use Rattle.lfs_fs.proofs.WeightLemmas.{entries_weigh_as_stored, superblocks_weigh_as_stored, runs_resolve}
use Rattle.lfs_fs.proofs.laws.entries_weigh_as_stored.Goals as goal

pub returns-clause-entries : goal.returns-clause-entries
returns-clause-entries c = entries_weigh_as_stored

pub returns-clause-superblocks : goal.returns-clause-superblocks
returns-clause-superblocks c = superblocks_weigh_as_stored

pub returns-clause-runs : goal.returns-clause-runs
returns-clause-runs c = runs_resolve
