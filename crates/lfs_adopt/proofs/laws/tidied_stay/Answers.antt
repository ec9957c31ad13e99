use Rattle.lfs_adopt.proofs.Filled.{tidied_stays}
use Rattle.lfs_adopt.proofs.TidiedBlocks.{tidied_images_stay}
use Rattle.lfs_adopt.proofs.laws.tidied_stay.Goals as goal

pub returns-clause-parts : goal.returns-clause-parts
returns-clause-parts c = tidied_stays

pub returns-clause-images : goal.returns-clause-images
returns-clause-images c = tidied_images_stay
