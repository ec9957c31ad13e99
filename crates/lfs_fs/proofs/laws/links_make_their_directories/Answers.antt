use Rattle.lfs_fs.proofs.ThreadLemmas.{links_make_their_directories}
use Rattle.lfs_fs.proofs.laws.links_make_their_directories.Goals as goal

pub returns : goal.returns
returns c = links_make_their_directories
