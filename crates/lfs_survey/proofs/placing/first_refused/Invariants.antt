use Rattle.std.proofs.Common.{take}
use Rattle.lfs_survey.specs.Place.{HasNone}
use Rattle.lfs_survey.proofs.placing.first_refused.Given as goal

abbrev pub invariant-each : goal.invariant-each
invariant-each l = HasNone l.fault (take l.index l.found)
