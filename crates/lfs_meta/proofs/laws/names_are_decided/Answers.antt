use Rattle.lfs_meta.proofs.NameLemmas.{is_name-decides}
use Rattle.lfs_meta.proofs.laws.names_are_decided.Goals as goal

pub returns : goal.returns
returns c = is_name-decides
