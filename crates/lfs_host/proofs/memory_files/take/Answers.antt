use Rattle.lfs_host.proofs.FileLemmas.{stays}
use Rattle.lfs_host.proofs.memory_files.take.Goals as goal

pub returns-clause-kept : goal.returns-clause-kept
returns-clause-kept c = stays c.args.name.now c.args.files.now c.remove.new.self _ c.remove.ensures.updates
