use Rattle.std.proofs.Common.{◌≡◌, ◌++◌}
use Rattle.lfs_survey.specs.AllPlaces.{area_places}
use Rattle.lfs_survey.proofs.all_places.add_area_places.Given as goal

abbrev pub invariant-loop-call : goal.invariant-loop-call
invariant-loop-call l = l.places.items ≡ l.fn.places.items ++ area_places l.area l.call
