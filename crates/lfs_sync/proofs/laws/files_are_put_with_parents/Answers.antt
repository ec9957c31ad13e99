use Rattle.lfs_sync.proofs.ParentLemmas.{put_is_with_file}
use Rattle.lfs_sync.proofs.laws.files_are_put_with_parents.Goals as goal

pub returns : goal.returns
returns c = put_is_with_file
