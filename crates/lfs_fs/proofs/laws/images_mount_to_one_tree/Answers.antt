use Rattle.lfs_fs.proofs.OneMountLemmas.{one_volume, one_tree, one_mount}
use Rattle.lfs_fs.proofs.laws.images_mount_to_one_tree.Goals as goal

pub returns-clause-volume : goal.returns-clause-volume
returns-clause-volume c = one_volume

pub returns-clause-tree : goal.returns-clause-tree
returns-clause-tree c = one_tree

pub returns-clause-mounted : goal.returns-clause-mounted
returns-clause-mounted c = one_mount
