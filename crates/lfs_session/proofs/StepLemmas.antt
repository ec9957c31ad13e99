-- A run goes on by the next step of a list.
use Rattle.std.proofs.Common.{◌≡◌, ℕ, ◌+◌, ◌<◌, List, [], ◌∷◌, ◌++◌, length, map, take, get_or, refl, ap, sym, ◌∙◌, subst}
use Rattle.std.proofs.Common.{Result}
use Rattle.std.specs.Result.{result_err}
use Rattle.std.proofs.lemmas.List.{map_more, map_push}
use Rattle.lfs_history.specs.declared.step_fault.StepFault.{StepFault}
use Rattle.lfs_history.specs.History.{History}
use Rattle.lfs_history.specs.Taking.{Move, Reply, Takes, Run}
use Rattle.lfs_history.specs.Meaning.{OnBytes, step_of}

-- a run goes on by one step
pub run_on : (steps : List Move) (replies : List Reply) (step : Move) (reply : Reply) (old mid new : History) → Run steps replies old mid
    → Takes step reply mid new
    → Run (steps ++ step ∷ []) (replies ++ reply ∷ []) old new
run_on [] [] step reply old mid new is next = (new, subst (λ (h : History). Takes step reply h new) is next, refl)
run_on (s ∷ steps) (r ∷ replies) step reply old mid new (after, first, rest) next =
    (after, first, run_on steps replies step reply after mid new rest next)
run_on [] (r ∷ replies) step reply old mid new run next = absurd run
run_on (s ∷ steps) [] step reply old mid new run next = absurd run

-- so it does with the next step of a list
pub run_more : (steps : List OnBytes) (i : ℕ) (d : OnBytes) (before after : List (Result (Unit {0}) StepFault))
    (r : Result (Unit {0}) StepFault) (old mid new : History) → i < length steps
    → after ≡ before ++ r ∷ [] → Run (map step_of (take i steps)) (map result_err before) old mid
    → Takes (step_of (get_or steps i d)) (result_err r) mid new
    → Run (map step_of (take (i + 1) steps)) (map result_err after) old new
run_more steps i d before after r old mid new within more run next =
    let ss : map step_of (take i steps) ++ step_of (get_or steps i d) ∷ [] ≡ map step_of (take (i + 1) steps) =
    sym (map_more step_of steps i d within) in
    let rs : map result_err before ++ result_err r ∷ [] ≡ map result_err after =
    sym (ap (map result_err) more ∙ map_push result_err before r) in
    let longer = run_on (map step_of (take i steps)) (map result_err before) (step_of (get_or steps i d))
    (result_err r) old mid new run next in
    subst (λ (x : List Reply). Run (map step_of (take (i + 1) steps)) x old new) rs
    (subst (λ (x : List Move). Run x (map result_err before ++ result_err r ∷ []) old new) ss longer)
