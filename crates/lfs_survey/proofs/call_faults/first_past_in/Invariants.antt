use Rattle.std.proofs.Common.{take}
use Rattle.std.specs.Prelude.{All}
use Rattle.lfs_survey.specs.Faults.{GoesOnPast}
use Rattle.lfs_survey.proofs.call_faults.first_past_in.Given as goal

abbrev pub invariant-each : goal.invariant-each
invariant-each l = All (λ p. GoesOnPast l.count l.survey.areas.items p → ⊥) (take l.place-index l.places)
