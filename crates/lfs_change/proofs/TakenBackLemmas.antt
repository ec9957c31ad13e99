-- What commands have done that keep all earlier images is taken back by as many undos.
use Rattle.std.proofs.Common.{◌≡◌, ◌∙◌, ℕ, zero, suc, ◌+◌, ◌≤◌, ◌<◌, List, [], ◌∷◌, ◌++◌, length, drop, map}
use Rattle.std.proofs.Common.{None, Some, Result, Ok, Err, OnOk, IfErr, refl, sym, ap, subst, arith}
use Rattle.lfs_block.specs.Disk.{Disk}
use Rattle.std.specs.List.{AllByRecursion}
use Rattle.lfs_history.specs.Batch.{StopsAt, TakesAll}
use Rattle.lfs_history.specs.declared.step_fault.StepFault.{StepFault}
use Rattle.lfs_history.proofs.RepeatLemmas.{one_more}
use Rattle.lfs_session.proofs.CountLemmas.{past_left}
use Rattle.lfs_history.specs.History.{History}
use Rattle.lfs_history.specs.Moves.{Undoes, Repeats}
use Rattle.lfs_history.specs.Taking.{Move, Do, Together, Undo, Redo, Forget, Takes}
use Rattle.lfs_change.specs.KeptPast.{AllButLast, KeepsPast}

-- the present image and those before it
abbrev pub images : History → List Disk
images h = h.present ∷ h.past

-- commands that keep all earlier images
abbrev pub KeepPast : List Move → Type 0
KeepPast [] = Unit {0}
KeepPast (step ∷ steps) = KeepsPast step × KeepPast steps

drop_one_more : (n : ℕ) (ds : List Disk) → drop 1 (drop n ds) ≡ drop (suc n) ds
drop_one_more zero ds = refl
drop_one_more (suc n) [] = refl
drop_one_more (suc n) (d ∷ ds) = drop_one_more n ds

-- undone changes drop the nearest images
pub undone_images : (n : ℕ) (old new : History) → Repeats Undoes n old new → images new ≡ drop n (images old)
undone_images zero old new same = ap images same
undone_images (suc n) old new (mid, first, rest) = undone_images n mid new rest ∙ ap (drop n) (sym first.past)

-- a command puts one in front
one_made : (step : Move) (old mid : History) → KeepsPast step → Takes step None old mid → images old ≡ drop 1 (images mid)
one_made (Do asked None) old mid keeps does = sym does.pushes.past
one_made (Do asked (Some n)) old mid keeps does = absurd keeps
one_made (Together asked keep) old mid keeps does = absurd keeps
one_made (Undo n) old mid keeps does = absurd keeps
one_made (Redo n) old mid keeps does = absurd keeps
one_made Forget old mid keeps does = absurd keeps

pub made_images : (steps : List Move) (old mid : History) → KeepPast steps → TakesAll steps old mid
    → images old ≡ drop (length steps) (images mid)
made_images [] old mid keep same = ap images (sym same)
made_images (step ∷ steps) old mid keep (after, first, rest) =
    one_made step old after keep.0 first ∙ ap (drop 1) (made_images steps after mid keep.1 rest)
    ∙ drop_one_more (length steps) (images mid)

-- so as many undos lead to the image that was there
pub taken_back : (steps : List Move) (old mid new : History) → KeepPast steps → TakesAll steps old mid
    → Repeats Undoes (length steps) mid new → new.present ≡ old.present
taken_back steps old mid new keep takes undone =
    let same : images new ≡ images old = undone_images (length steps) mid new undone ∙ sym (made_images steps old mid keep takes) in
    cc

-- and there are as many
pub enough : (steps : List Move) (old mid : History) → KeepPast steps → TakesAll steps old mid → length steps ≤ length mid.past
enough [] old mid keep same = omega arith
enough (step ∷ steps) old mid keep takes = more (length (step ∷ steps)) mid.past old (made_images (step ∷ steps) old mid keep takes)
  where
    more : (n : ℕ) (ds : List Disk) (h : History) → images h ≡ drop n (mid.present ∷ ds) → n ≤ length ds
    more zero ds h is = omega arith
    more (suc n) ds h is = fewer n ds h is
      where
        fewer : (k : ℕ) (es : List Disk) (g : History) → images g ≡ drop k es → suc k ≤ length es
        fewer zero [] g same = absurd (cc)
        fewer zero (e ∷ es) g same = omega arith
        fewer (suc k) [] g same = absurd (cc)
        fewer (suc k) (e ∷ es) g same = let less = fewer k es g same in omega (arith, less)

-- ---- the steps in front of one that is refused

-- all but the last keep all earlier images, so those in front of one do
pub fronts_keep : (before : List Move) (step : Move) (behind : List Move) → AllButLast (before ++ step ∷ behind) → KeepPast before
fronts_keep [] step behind keep = tt
fronts_keep (first ∷ []) step behind keep = (keep.0, tt)
fronts_keep (first ∷ next ∷ before) step behind keep = (keep.0, fronts_keep (next ∷ before) step behind keep.1)

-- steps in front of a last one
pub all_but_last : {X : Type 0} (step_of : X → Move) (fronts : List X) (last : X) → AllByRecursion (λ step. KeepsPast (step_of step)) fronts
    → AllButLast (map step_of (fronts ++ last ∷ []))
all_but_last step_of [] last keep = tt
all_but_last step_of (first ∷ []) last keep = (keep.0, tt)
all_but_last step_of (first ∷ next ∷ fronts) last keep = (keep.0, all_but_last step_of (next ∷ fronts) last keep.1)

-- where a step is refused, as many undos as are done lead back
pub stopped_back : (steps : List Move) (at : ℕ) (fault : StepFault) (old mid new : History) → AllButLast steps
    → StopsAt steps at fault old mid → Repeats Undoes at mid new → new.present ≡ old.present
stopped_back steps at fault old mid new keep stops undone =
    let front = fronts_keep stops.before stops.step stops.behind (subst AllButLast stops.are keep) in
    taken_back stops.before old mid new front stops.led (subst (λ (n : ℕ). Repeats Undoes n mid new) (sym stops.place) undone)

pub stopped_enough : (steps : List Move) (at : ℕ) (fault : StepFault) (old mid : History) → AllButLast steps
    → StopsAt steps at fault old mid → at ≤ length mid.past
stopped_enough steps at fault old mid keep stops =
    let front = fronts_keep stops.before stops.step stops.behind (subst AllButLast stops.are keep) in
    subst (λ (n : ℕ). n ≤ length mid.past) stops.place (enough stops.before old mid front stops.led)

-- ---- one undo more

pub undone_more : {E : Type 0} (many so_far : ℕ) (old mid new : History) (reply : Result (Unit {0}) E) (N : E → Type 0)
    → many ≤ length old.past → so_far < many → Repeats Undoes so_far old mid → OnOk reply (Undoes mid new)
    → IfErr reply (λ f. N f × (mid.past ≡ []) × (new ≡ mid)) → Repeats Undoes (so_far + 1) old new
undone_more many so_far old mid new (Ok unit) N within more undone next none = one_more Undoes so_far old mid new undone next
undone_more many so_far old mid new (Err f) N within more undone next none =
    absurd (past_left many so_far old mid undone more within none.1)
