use Rattle.std.proofs.Common.{take}
use Rattle.lfs_survey.specs.Survey.{AddsAreas}
use Rattle.lfs_survey.proofs.surveying_all.add_areas.Given as goal

abbrev pub invariant-each : goal.invariant-each
invariant-each g l = AddsAreas (g.B.Blocks.disk l.blocks) l.fn.looked l.looked l.fn.areas.items l.areas.items (take l.start-index l.starts)
