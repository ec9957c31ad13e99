-- What is found at each place of a survey is right.
use Rattle.std.proofs.Common.{◌≡◌, ℕ, Bool, List, [], ◌∷◌, ◌++◌, take, Some, None, zero, suc, refl, ap, sym, ◌∙◌, subst}
use Rattle.std.specs.Prelude.{slice_get}
use Rattle.lfs_block.specs.Disk.{Disk}
use Rattle.lfs_meta.specs.Body.{Pair}
use Rattle.lfs_fs.specs.Pair.{root}
use Rattle.lfs_survey.specs.Area.{AreFound, IsArea, looked_after}
use Rattle.lfs_survey.specs.Looking.{IsFound, looked_behind}
use Rattle.lfs_survey.specs.Place.{SurveysAreRight}
use Rattle.lfs_survey.specs.Survey.{BeginIn, area_tails, behind_area, behind_areas, unlooked}
use Rattle.lfs_survey.specs.declared.area.Area.{Area}
use Rattle.lfs_survey.specs.declared.call.Call.{Call}
use Rattle.lfs_survey.specs.declared.found.Found.{Found}

same_some : {X : Type 0} (x y : X) → Some x ≡ Some y → x ≡ y
same_some x y is = cc

no_some : {X : Type 0} (y : X) → None ≡ Some y → ⊥
no_some y is = cc

found_there : (d : Disk) (looked : List Bool) (cs : List Call) (fs : List Found) (n : ℕ) (f : Found) → AreFound d looked cs fs
    → slice_get fs n ≡ Some f
    → (c : Call) × (slice_get cs n ≡ Some c) × IsFound d (looked_after looked (take n cs) (take n fs)) c.pair f
found_there d looked cs [] n f right is = absurd (no_some f is)
found_there d looked [] (y ∷ fs) n f right is = absurd right
found_there d looked (x ∷ cs) (y ∷ fs) zero f right is =
    (x, refl, subst (λ (z : Found). IsFound d looked x.pair z) (same_some y f is) right.0)
found_there d looked (x ∷ cs) (y ∷ fs) (suc n) f right is = found_there d (looked_behind looked x.pair) cs fs n f right.1 is

area_there : (d : Disk) (looked : List Bool) (starts : List Pair) (areas : List Area) (i : ℕ) (a : Area) → BeginIn d looked starts areas
    → slice_get areas i ≡ Some a → (start : Pair) × IsArea d (behind_areas looked (take i areas)) start a
area_there d looked starts [] i a h is = absurd (no_some a is)
area_there d looked starts (x ∷ areas) zero a (start, at, area, rest) is =
    (start, subst (λ (y : Area). IsArea d looked start y) (same_some x a is) area)
area_there d looked starts (x ∷ areas) (suc i) a (start, at, area, rest) is =
    area_there d (behind_area looked x) (starts ++ area_tails x) areas i a rest is

any_area : (d : Disk) (starts : List Pair) (first : Area) (later : List Area) (i : ℕ) (a : Area) → IsArea d (unlooked d) root first
    → BeginIn d (behind_area (unlooked d) first) starts later → slice_get (first ∷ later) i ≡ Some a
    → (start : Pair) × IsArea d (behind_areas (unlooked d) (take i (first ∷ later))) start a
any_area d starts first later zero a one others is =
    (root, subst (λ (y : Area). IsArea d (unlooked d) root y) (same_some first a is) one)
any_area d starts first later (suc i) a one others is = area_there d (behind_area (unlooked d) first) starts later i a others is

-- the law
pub surveys_right : SurveysAreRight
surveys_right d s p a f h at is =
    let one = any_area d _ h.first h.later p.area a h.root_area h.others (ap (λ (xs : List Area). slice_get xs p.area) (sym h.are) ∙ at) in
    let area = subst (λ (xs : List Area). IsArea d (behind_areas (unlooked d) (take p.area xs)) one.0 a) (sym h.are) one.1 in
    found_there d (behind_areas (unlooked d) (take p.area s.areas.items)) a.calls.items a.found.items p.call f area.right is
