use Rattle.lfs_json.proofs.TextLemmas.{spellings_read_back}
use Rattle.lfs_json.proofs.laws.spellings_read_back.Goals as goal

pub returns : goal.returns
returns c = spellings_read_back
