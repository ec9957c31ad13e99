use Rattle.lfs_sync.proofs.SyncedLemmas.{equal_needs_nothing, synced_is_the_folder}
use Rattle.lfs_sync.proofs.laws.parts_become_folders.Goals as goal

pub returns-clause-becomes : goal.returns-clause-becomes
returns-clause-becomes c = synced_is_the_folder c.paths_are_ordered.ensures

pub returns-clause-equal : goal.returns-clause-equal
returns-clause-equal c = equal_needs_nothing
