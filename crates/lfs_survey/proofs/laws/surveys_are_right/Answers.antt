-- Each area is right behind the areas before it, and each call behind the calls before it.
use Rattle.lfs_survey.proofs.RightLemmas.{surveys_right}
use Rattle.lfs_survey.proofs.laws.surveys_are_right.Goals as goal

pub returns : goal.returns
returns c = surveys_right
