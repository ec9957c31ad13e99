use Rattle.lfs_fs.proofs.RootMountLemmas.{mounted_root}
use Rattle.lfs_fs.proofs.laws.lone_superblocks_mount.Goals as goal

pub returns : goal.returns
returns c = mounted_root
