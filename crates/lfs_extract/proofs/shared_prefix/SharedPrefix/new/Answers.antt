-- No name is shared by no names.
use Rattle.std.proofs.Common.{refl}
use Rattle.lfs_extract.proofs.PrefixLemmas.{starts}
use Rattle.lfs_extract.proofs.shared_prefix.SharedPrefix.new.Goals as goal

pub returns : goal.returns
returns c = λ at. starts at _ refl refl
