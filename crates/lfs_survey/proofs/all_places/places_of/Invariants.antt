use Rattle.std.proofs.Common.{◌≡◌, take}
use Rattle.lfs_survey.specs.AllPlaces.{area_places_from}
use Rattle.lfs_survey.proofs.all_places.places_of.Given as goal

abbrev pub invariant-each : goal.invariant-each
invariant-each l = l.places.items ≡ area_places_from 0 (take l.area l.survey.areas.items)
