use Rattle.lfs_file.proofs.ContentLemmas.{length-content}
use Rattle.lfs_file.proofs.laws.contents_have_their_length.Goals as goal

pub returns : goal.returns
returns c = length-content
