-- The folder is below that of the image.
use Rattle.lfs_salvage.proofs.LostFolderLemmas.{lost_below}
use Rattle.lfs_salvage.proofs.lost.lost_folder.Goals as goal

pub returns-in_err-word-clause-below : goal.returns-in_err-word-clause-below
returns-in_err-word-clause-below c = lost_below c.args.dir.now c.args.areas.now

pub returns-clause-below : goal.returns-clause-below
returns-clause-below c = lost_below c.args.dir.now c.args.areas.now
