use Rattle.lfs_history.proofs.ImageLemmas.{done_is_undone, done_is_undone_as_kept, together_is_undone}
use Rattle.lfs_history.proofs.laws.undo_is_exact.Goals as goal

pub returns-clause-all : goal.returns-clause-all
returns-clause-all c = done_is_undone

pub returns-clause-kept : goal.returns-clause-kept
returns-clause-kept c = done_is_undone_as_kept

pub returns-clause-together : goal.returns-clause-together
returns-clause-together c = together_is_undone
