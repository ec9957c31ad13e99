use Rattle.lfs_json.proofs.TextLemmas.{spellings_are_utf8}
use Rattle.lfs_json.proofs.laws.spellings_are_utf8.Goals as goal

pub returns : goal.returns
returns c = spellings_are_utf8
