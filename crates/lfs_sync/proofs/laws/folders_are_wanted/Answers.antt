use Rattle.lfs_sync.proofs.FolderLemmas as folder
use Rattle.lfs_sync.proofs.laws.folders_are_wanted.Goals as goal

pub returns : goal.returns
returns c = folder.folders_are_wanted c.paths_are_ordered.ensures
