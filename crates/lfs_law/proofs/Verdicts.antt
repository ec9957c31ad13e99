-- The first check that refuses.
use Rattle.std.proofs.Common.{◌≡◌, List, [], ◌∷◌, ◌++◌, Option, Some, None, refl, sym}
use Rattle.std.proofs.lemmas.Option.{none-some}
use Rattle.lfs_command.specs.declared.refusal.Refusal.{Refusal}
use Rattle.lfs_command.specs.Verdict.{first_refusal}

-- checks behind one that refuses don't matter
pub refused_first : (rs more : List (Option Refusal)) (r : Refusal) → first_refusal rs ≡ Some r → first_refusal (rs ++ more) ≡ Some r
refused_first [] more r h = absurd (none-some r h)
refused_first (None ∷ rs) more r h = refused_first rs more r h
refused_first (Some q ∷ rs) more r h = h

-- checks that don't refuse leave it to those behind them
pub passed_first : (rs more : List (Option Refusal)) → first_refusal rs ≡ None → first_refusal (rs ++ more) ≡ first_refusal more
passed_first [] more h = refl
passed_first (None ∷ rs) more h = passed_first rs more h
passed_first (Some q ∷ rs) more h = absurd (none-some q (sym h))

-- where no check refuses, none of the first ones does
pub front_passes : (rs more : List (Option Refusal)) → first_refusal (rs ++ more) ≡ None → first_refusal rs ≡ None
front_passes [] more h = refl
front_passes (None ∷ rs) more h = front_passes rs more h
front_passes (Some q ∷ rs) more h = h
