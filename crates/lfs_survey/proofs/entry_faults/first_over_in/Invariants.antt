use Rattle.std.proofs.Common.{take}
use Rattle.std.specs.Prelude.{All}
use Rattle.lfs_survey.specs.Faults.{IsOver}
use Rattle.lfs_survey.proofs.entry_faults.first_over_in.Given as goal

abbrev pub invariant-each : goal.invariant-each
invariant-each l = All (λ p. IsOver l.limits l.survey.areas.items p → ⊥) (take l.place-index l.places)
