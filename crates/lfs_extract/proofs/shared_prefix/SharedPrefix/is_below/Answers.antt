-- All names of the other path are shared.
use Rattle.lfs_extract.proofs.PrefixLemmas.{tells}
use Rattle.lfs_extract.proofs.shared_prefix.SharedPrefix.is_below.Goals as goal

pub returns : goal.returns
returns c = λ path. tells c.args.at.now path c.args.self
