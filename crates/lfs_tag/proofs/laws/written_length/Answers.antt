use Rattle.lfs_tag.proofs.Puts.{commit_len}
use Rattle.lfs_tag.proofs.laws.written_length.Goals as goal

pub returns : goal.returns
returns c = commit_len
