use Rattle.lfs_survey.proofs.AreaLemmas.{IsUnderWay, left_over}
use Rattle.lfs_survey.proofs.surveying.survey_from.Given as goal

abbrev pub invariant-looking : goal.invariant-looking
invariant-looking g l = IsUnderWay (g.B.Blocks.disk l.blocks) l.fn.looked l.looked l.fn.start l.calls.items l.found.items

abbrev pub decreases-looking : goal.decreases-looking
decreases-looking g l = left_over l.looked l.calls.items l.found.items
