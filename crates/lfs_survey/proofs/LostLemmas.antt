-- The root's area hasn't the pair at which the second one begins.
use Rattle.std.proofs.Common.{◌≡◌, Bool, true, false, List, [], ◌∷◌, length, Some, zero, suc, ap, sym, ◌∙◌, arith, subst}
use Rattle.std.specs.Prelude.{Contains, slice_get}
use Rattle.std.proofs.lemmas.Option.{same_Some, none-some}
use Rattle.lfs_block.specs.Disk.{Disk}
use Rattle.lfs_meta.specs.Body.{Pair}
use Rattle.lfs_survey.specs.Area.{IsArea, looked_after}
use Rattle.lfs_survey.specs.Calls.{start_call}
use Rattle.lfs_survey.specs.Looking.{is_open, looked_behind}
use Rattle.lfs_survey.specs.Lost.{LostAreasAreNotReached}
use Rattle.lfs_survey.specs.Reached.{IsCalled}
use Rattle.lfs_survey.specs.Survey.{BeginIn, behind_area, unlooked}
use Rattle.lfs_survey.specs.declared.area.Area.{Area}
use Rattle.lfs_survey.specs.declared.call.Call.{Call}
use Rattle.lfs_survey.specs.declared.found.Found.{Found}
use Rattle.lfs_survey.proofs.AreaLemmas.{after_grows}
use Rattle.lfs_survey.proofs.LookingLemmas.{behind_shut, grows_shut}
use Rattle.lfs_survey.proofs.SurveyLemmas.{first_is_open}

-- a pair that was looked at isn't open behind
called_shut : (looked : List Bool) (cs : List Call) (fs : List Found) (c : Call) → length fs ≡ length cs → Contains cs c
    → is_open (looked_after looked cs fs) c.pair ≡ false
called_shut looked [] fs c same (k, within, is) = absurd (omega (arith, within))
called_shut looked (x ∷ cs) [] c same has = absurd (omega (arith, same))
called_shut looked (x ∷ cs) (y ∷ fs) c same (zero, within, is) =
    let table = looked_behind looked x.pair in
    subst (λ (z : Call). is_open (looked_after table cs fs) z.pair ≡ false) is
    (grows_shut table (looked_after table cs fs) x.pair (after_grows table cs fs) (behind_shut looked x.pair))
called_shut looked (x ∷ cs) (y ∷ fs) c same (suc k, within, is) =
    called_shut (looked_behind looked x.pair) cs fs c (omega (arith, same)) (k, omega (arith, within), is)

not_both : (t : Bool) → t ≡ true → t ≡ false → ⊥
not_both t is other = cc

begins_with : (start : Pair) (c : Call) (cs rest : List Call) → cs ≡ start_call start ∷ rest → slice_get cs 0 ≡ Some c → start ≡ c.pair
begins_with start c cs rest are is =
    ap (λ (x : Call). x.pair) (same_Some (start_call start) c (sym (ap (λ (xs : List Call). slice_get xs 0) are) ∙ is))

second_apart : (d : Disk) (looked : List Bool) (starts : List Pair) (a b : Area) (later : List Area) (c : Call) (root : Pair)
    → IsArea d looked root a → BeginIn d (behind_area looked a) starts later → slice_get later 0 ≡ Some b → slice_get b.calls.items 0 ≡ Some c
    → IsCalled a c.pair → ⊥
second_apart d looked starts a b [] c root first others at is called = absurd (none-some b at)
second_apart d looked starts a b (x ∷ later) c root first (start, begins, area, rest) at is (e, there, same) =
    let here : x ≡ b = same_Some x b at in
    let pair : start ≡ c.pair =
    begins_with start c x.calls.items _ area.called (ap (λ (y : Area). slice_get y.calls.items 0) here ∙ is) in
    let shut : is_open (behind_area looked a) e.pair ≡ false = called_shut looked a.calls.items a.found.items e first.all there in
    not_both (is_open (behind_area looked a) start) (first_is_open (behind_area looked a) start starts begins)
    (subst (λ (p : Pair). is_open (behind_area looked a) p ≡ false) (same ∙ sym pair) shut)

-- the law
pub lost_apart : LostAreasAreNotReached
lost_apart d s a b c h first second is called =
    let root_is : h.first ≡ a = same_Some h.first a (ap (λ (xs : List Area). slice_get xs 0) (sym h.are) ∙ first) in
    second_apart d (unlooked d) _ h.first b h.later c _ h.root_area h.others
    (ap (λ (xs : List Area). slice_get xs 1) (sym h.are) ∙ second) is
    (subst (λ (x : Area). IsCalled x c.pair) (sym root_is) called)
