use Rattle.std.proofs.Common.{◌+◌, ◌-◌, length}
use Rattle.lfs_fs.specs.Used.{unmarked}
use Rattle.lfs_survey.proofs.SurveyLemmas.{IsSurveying}
use Rattle.lfs_survey.proofs.surveying_all.survey_all.Given as goal

abbrev pub invariant-areas : goal.invariant-areas
invariant-areas g l = IsSurveying (g.B.Blocks.disk l.blocks) l.table l.areas.items l.next

abbrev pub decreases-areas : goal.decreases-areas
decreases-areas g l = unmarked l.table + (length l.areas.items - l.next)
