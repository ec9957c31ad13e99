-- Several steps, all of which are done or none (own).
use Rattle.std.specs.Prelude.{◌≡◌, ℕ, List, ◌∷◌, ◌++◌, length, map, None, Some}
use Rattle.lfs_history.specs.declared.step_fault.StepFault.{StepFault}
use Rattle.lfs_history.specs.History.{History}
use Rattle.lfs_history.specs.Taking.{Move, Run, Takes}

-- they are all done, one after another
abbrev pub TakesAll : List Move → History → History → Type 0
TakesAll steps old new = Run steps (map (λ _. None) steps) old new

-- the first of them that is refused: those in front of it, so many, are done, and lead to a history that it is refused on
pub record StopsAt (steps : List Move) (at : ℕ) (fault : StepFault) (old mid : History) : Type 0 where
  pub before : List Move
  pub step : Move
  pub behind : List Move
  pub are : steps ≡ before ++ step ∷ behind
  pub place : length before ≡ at
  pub led : TakesAll before old mid
  pub refused : Takes step (Some fault) mid mid
