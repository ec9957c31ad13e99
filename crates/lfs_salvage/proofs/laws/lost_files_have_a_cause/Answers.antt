-- Case by case.
use Rattle.lfs_salvage.proofs.ShownLemmas.{lost_have_cause}
use Rattle.lfs_salvage.proofs.laws.lost_files_have_a_cause.Goals as goal

pub returns : goal.returns
returns c = lost_have_cause
