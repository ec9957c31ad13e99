use Rattle.std.proofs.Common.{take}
use Rattle.std.specs.Prelude.{All}
use Rattle.lfs_survey.specs.Place.{HasNone}
use Rattle.lfs_survey.proofs.placing.first_place.Given as goal

abbrev pub invariant-each : goal.invariant-each
invariant-each l = All (λ a. HasNone l.fault a.found.items) (take l.area l.survey.areas.items)
