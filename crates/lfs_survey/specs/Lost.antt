-- Where in a survey no path leads (own).
use Rattle.std.specs.Prelude.{◌≡◌, ◌<◌, ◌≤◌, List, Option, None, Some, length, slice_get}
use Rattle.lfs_block.specs.Disk.{Disk}
use Rattle.lfs_survey.specs.Reached.{IsCalled}
use Rattle.lfs_survey.specs.Survey.{IsSurvey}
use Rattle.lfs_survey.specs.declared.area.Area.{Area}
use Rattle.lfs_survey.specs.declared.call.Call.{Call}
use Rattle.lfs_survey.specs.declared.place.Place.{Place}
use Rattle.lfs_survey.specs.declared.survey.Survey.{Survey}

-- the place where the second area begins, where there is one
abbrev pub IsLostPlace : List Area → Option Place → Type 0
IsLostPlace areas None = length areas ≤ 1
IsLostPlace areas (Some p) = (1 < length areas) × (p ≡ record { area = 1; call = 0 })

-- the law: the root's area hasn't the pair at which the second one begins, so that no trail from the root leads there unless a pair on it
-- was turned away
abbrev pub LostAreasAreNotReached : Type 0
LostAreasAreNotReached = (d : Disk) (s : Survey) (a b : Area) (c : Call) → IsSurvey d s → slice_get s.areas.items 0 ≡ Some a
    → slice_get s.areas.items 1 ≡ Some b → slice_get b.calls.items 0 ≡ Some c → IsCalled a c.pair → ⊥
