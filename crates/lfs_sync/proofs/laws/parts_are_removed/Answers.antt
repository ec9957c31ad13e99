use Rattle.lfs_sync.proofs.RemovedLemmas.{removed_is_without}
use Rattle.lfs_sync.proofs.laws.parts_are_removed.Goals as goal

pub returns : goal.returns
returns c = removed_is_without
