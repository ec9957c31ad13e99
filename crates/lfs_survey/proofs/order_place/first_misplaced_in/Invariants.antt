use Rattle.std.proofs.Common.{take}
use Rattle.std.specs.Prelude.{All}
use Rattle.lfs_survey.specs.Faults.{IsMisplaced}
use Rattle.lfs_survey.proofs.order_place.first_misplaced_in.Given as goal

abbrev pub invariant-each : goal.invariant-each
invariant-each l = All (λ p. IsMisplaced l.survey.areas.items p → ⊥) (take l.place-index l.places)
