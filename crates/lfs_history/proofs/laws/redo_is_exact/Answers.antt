use Rattle.lfs_history.proofs.RepeatLemmas.{redo_exact}
use Rattle.lfs_history.proofs.laws.redo_is_exact.Goals as goal

pub returns : goal.returns
returns c = redo_exact
