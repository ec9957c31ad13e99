-- What was looked at isn't open, and an area begins at a pair that is.
use Rattle.lfs_survey.proofs.LostLemmas.{lost_apart}
use Rattle.lfs_survey.proofs.laws.lost_areas_are_not_reached.Goals as goal

pub returns : goal.returns
returns c = lost_apart
