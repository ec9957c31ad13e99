use Rattle.std.proofs.Common.{◌≡◌, take}
use Rattle.std.specs.Prelude.{flat_map}
use Rattle.lfs_survey.specs.AllPlaces.{entry_places_at, found_at}
use Rattle.lfs_survey.proofs.all_places.entry_places_in.Given as goal

abbrev pub invariant-each : goal.invariant-each
invariant-each l = l.places.items ≡ flat_map (λ p. entry_places_at p (found_at l.survey.areas.items p)) (take l.at-index l.parts)
