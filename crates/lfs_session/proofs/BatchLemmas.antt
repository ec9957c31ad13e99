-- Steps that are all done go on by the next of a list, or stop at it.
use Rattle.std.proofs.Common.{◌≡◌, ℕ, ◌+◌, ◌<◌, List, [], ◌∷◌, ◌++◌, length, map, take, drop, get_or, suc, None, Some, refl, sym, subst, arith}
use Rattle.std.proofs.lemmas.List.{get_or-map, length-map, length-take-le, map_more, take-map}
use Rattle.std.proofs.Math.Seq.{split_at}
use Rattle.lfs_history.specs.declared.step_fault.StepFault.{StepFault}
use Rattle.lfs_history.specs.Batch.{StopsAt, TakesAll}
use Rattle.lfs_history.specs.History.{History}
use Rattle.lfs_history.specs.Meaning.{OnBytes, step_of}
use Rattle.lfs_history.specs.Taking.{Move, Takes}
use Rattle.lfs_history.proofs.RefusedLemmas.{refused_keeps}

-- they go on by one step
takes_on : (steps : List Move) (step : Move) (old mid new : History) → TakesAll steps old mid → Takes step None mid new
    → TakesAll (steps ++ step ∷ []) old new
takes_on [] step old mid new is next = (new, subst (λ (h : History). Takes step None h new) is next, refl)
takes_on (s ∷ steps) step old mid new (after, first, rest) next = (after, first, takes_on steps step after mid new rest next)

-- so they do by the next step of a list
pub takes_more : (steps : List OnBytes) (i : ℕ) (d : OnBytes) (old mid new : History) → i < length steps
    → TakesAll (map step_of (take i steps)) old mid → Takes (step_of (get_or steps i d)) None mid new
    → TakesAll (map step_of (take (i + 1) steps)) old new
takes_more steps i d old mid new within all next =
    subst (λ (x : List Move). TakesAll x old new) (sym (map_more step_of steps i d within))
    (takes_on (map step_of (take i steps)) (step_of (get_or steps i d)) old mid new all next)

-- where the next one is refused they stop there
pub stops_at : (steps : List OnBytes) (i : ℕ) (d : OnBytes) (fault : StepFault) (old mid new : History) → i < length steps
    → TakesAll (map step_of (take i steps)) old mid → Takes (step_of (get_or steps i d)) (Some fault) mid new
    → StopsAt (map step_of steps) i fault old new
stops_at steps i d fault old mid new within all next =
    let moves = map step_of steps in
    let kept = refused_keeps (step_of (get_or steps i d)) fault mid new next in
    let many : i < length moves = subst (λ (n : ℕ). i < n) (sym (length-map steps step_of)) within in
    let led : TakesAll (take i moves) old mid = subst (λ (x : List Move). TakesAll x old mid) (sym (take-map step_of i steps)) all in
    let here : Takes (step_of (get_or steps i d)) (Some fault) new new =
    subst (λ (h : History). Takes (step_of (get_or steps i d)) (Some fault) h new) (sym kept) next in
    let step_is : step_of (get_or steps i d) ≡ get_or moves i (step_of d) = sym (get_or-map step_of steps i d (step_of d) within) in
    record {
      before = take i moves;
      step = get_or moves i (step_of d);
      behind = drop (suc i) moves;
      are = split_at moves i (step_of d) many;
      place = length-take-le i moves (omega arith);
      led = subst (TakesAll (take i moves) old) (sym kept) led;
      refused = subst (λ (s : Move). Takes s (Some fault) new new) step_is here;
    }
