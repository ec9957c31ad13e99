-- Places of a survey: what is right at each, and the first one at which a pair isn't read for a fault (own).
use Rattle.std.specs.Prelude.{◌≡◌, ℕ, Bool, ◌≢◌, List, All, Option, None, Some, slice_get, take}
use Rattle.lfs_block.specs.Disk.{Disk}
use Rattle.lfs_block.specs.declared.mount_fault.MountFault.{MountFault}
use Rattle.lfs_survey.specs.Area.{looked_after}
use Rattle.lfs_survey.specs.Looking.{IsFound}
use Rattle.lfs_survey.specs.Survey.{IsSurvey, behind_areas, unlooked}
use Rattle.lfs_survey.specs.declared.area.Area.{Area}
use Rattle.lfs_survey.specs.declared.call.Call.{Call}
use Rattle.lfs_survey.specs.declared.found.Found.{Found}
use Rattle.lfs_survey.specs.declared.found.Found.TheVariants.{Refused}
use Rattle.lfs_survey.specs.declared.place.Place.{Place}
use Rattle.lfs_survey.specs.declared.survey.Survey.{Survey}

-- of what is found nothing is refused for this
abbrev pub HasNone : MountFault → List Found → Type 0
HasNone fault fs = All (λ f. f ≢ Refused fault) fs

-- the number of the first pair that isn't read for this, where there is one
abbrev pub IsFirstIn : MountFault → List Found → Option ℕ → Type 0
IsFirstIn fault fs None = HasNone fault fs
IsFirstIn fault fs (Some n) = (slice_get fs n ≡ Some (Refused fault)) × HasNone fault (take n fs)

-- its place among areas, where there is one
abbrev pub IsPlaceOfFault : MountFault → List Area → Option Place → Type 0
IsPlaceOfFault fault areas None = All (λ a. HasNone fault a.found.items) areas
IsPlaceOfFault fault areas (Some p) = (a : Area) × (slice_get areas p.area ≡ Some a) × IsFirstIn fault a.found.items (Some p.call)
    × All (λ b. HasNone fault b.found.items) (take p.area areas)

-- the blocks that were looked at before a place: those of the areas before it, and those of the calls before it
abbrev pub looked_before : Disk → List Area → Area → Place → List Bool
looked_before d areas a p =
    looked_after (behind_areas (unlooked d) (take p.area areas)) (take p.call a.calls.items) (take p.call a.found.items)

-- the law: at each place of a survey there is a call, and what is found there is right
abbrev pub SurveysAreRight : Type 0
SurveysAreRight = (d : Disk) (s : Survey) (p : Place) (a : Area) (f : Found) → IsSurvey d s → slice_get s.areas.items p.area ≡ Some a
    → slice_get a.found.items p.call ≡ Some f
    → (c : Call) × (slice_get a.calls.items p.call ≡ Some c) × IsFound d (looked_before d s.areas.items a p) c.pair f
