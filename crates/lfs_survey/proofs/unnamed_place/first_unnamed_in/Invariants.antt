use Rattle.std.proofs.Common.{take}
use Rattle.std.specs.Prelude.{All}
use Rattle.lfs_survey.specs.PairKeys.{BeginsNothing}
use Rattle.lfs_survey.proofs.unnamed_place.first_unnamed_in.Given as goal

abbrev pub invariant-each : goal.invariant-each
invariant-each l = All (λ p. BeginsNothing l.survey.areas.items p → ⊥) (take l.place-index l.places)
