use Rattle.lfs_fs.proofs.AlikeLemmas.{stored_links_stay, superblock_is_of_the_root}
use Rattle.lfs_fs.proofs.laws.stored_links_stay.Goals as goal

pub returns-clause-alike : goal.returns-clause-alike
returns-clause-alike c = stored_links_stay

pub returns-clause-elsewhere : goal.returns-clause-elsewhere
returns-clause-elsewhere c = superblock_is_of_the_root
