-- A pair that has a cause holds no part, so what a trail leads through was found or turned away.
use Rattle.lfs_survey.proofs.ReachedLemmas.{areas_complete}
use Rattle.lfs_survey.proofs.laws.areas_are_complete.Goals as goal

pub returns : goal.returns
returns c = areas_complete c.unread_pairs_hold_no_part.ensures
