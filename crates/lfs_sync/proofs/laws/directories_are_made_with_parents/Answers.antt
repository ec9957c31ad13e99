use Rattle.lfs_sync.proofs.HeldLemmas.{trees_are_rooted}
use Rattle.lfs_sync.proofs.ParentLemmas.{made_is_with_parents}
use Rattle.lfs_sync.proofs.laws.directories_are_made_with_parents.Goals as goal

pub returns-clause-made : goal.returns-clause-made
returns-clause-made c = made_is_with_parents

pub returns-clause-rooted : goal.returns-clause-rooted
returns-clause-rooted c = trees_are_rooted
