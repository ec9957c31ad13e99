use Rattle.lfs_json.proofs.TextLemmas.{spellings_are_one_line}
use Rattle.lfs_json.proofs.laws.spellings_are_one_line.Goals as goal

pub returns : goal.returns
returns c = spellings_are_one_line
