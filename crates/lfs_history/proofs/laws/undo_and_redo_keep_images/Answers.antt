use Rattle.lfs_history.proofs.ImageLemmas.{runs_keep_images}
use Rattle.lfs_history.proofs.laws.undo_and_redo_keep_images.Goals as goal

pub returns : goal.returns
returns c = runs_keep_images
