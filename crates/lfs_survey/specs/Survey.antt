-- All that is found of an image over its tree and its thread (own).
use Rattle.std.specs.Prelude.{◌≡◌, ◌+◌, ◌≤◌, Bool, false, List, [], ◌∷◌, ◌++◌, All, Option, None, Some, flat_map, if◌then◌else◌, length, replicate}
use Rattle.lfs_block.specs.Disk.{Disk}
use Rattle.lfs_meta.specs.Body.{Pair}
use Rattle.lfs_meta.specs.declared.tail.Tail.{Tail}
use Rattle.lfs_meta.specs.declared.tail.Tail.TheVariants.{End, Soft, Hard}
use Rattle.lfs_fs.specs.Pair.{root}
use Rattle.lfs_fs.specs.Used.{unmarked}
use Rattle.lfs_survey.specs.Area.{IsArea, looked_after}
use Rattle.lfs_survey.specs.Looking.{Grows, is_open}
use Rattle.lfs_survey.specs.declared.area.Area.{Area}
use Rattle.lfs_survey.specs.declared.found.Found.{Found}
use Rattle.lfs_survey.specs.declared.found.Found.TheVariants.{Part, Refused}
use Rattle.lfs_survey.specs.declared.survey.Survey.{Survey}

-- the pair of a soft tail
abbrev pub soft_tail : Tail → List Pair
soft_tail End = []
soft_tail (Soft first second) = (first, second) ∷ []
soft_tail (Hard first second) = []

-- the pair to which the thread goes on behind what is found, to another directory
abbrev pub found_tail : Found → List Pair
found_tail (Part p) = soft_tail p.1.tail
found_tail (Refused fault) = []

-- those behind all that an area has
abbrev pub area_tails : Area → List Pair
area_tails a = flat_map found_tail a.found.items

-- what is looked at behind an area
abbrev pub behind_area : List Bool → Area → List Bool
behind_area looked a = looked_after looked a.calls.items a.found.items

-- behind areas, one after another
abbrev pub behind_areas : List Bool → List Area → List Bool
behind_areas looked [] = looked
behind_areas looked (a ∷ more) = behind_areas (behind_area looked a) more

-- the first of these pairs that is open
abbrev pub first_open : List Bool → List Pair → Option Pair
first_open looked [] = None
first_open looked (p ∷ ps) = if is_open looked p then Some p else first_open looked ps

-- areas, one after another, each of which begins at the first of these pairs that is open then
abbrev pub BeginAmong : Disk → List Bool → List Pair → List Area → Type 0
BeginAmong d looked starts [] = Unit {0}
BeginAmong d looked starts (a ∷ more) = (start : Pair) × (first_open looked starts ≡ Some start) × IsArea d looked start a
    × BeginAmong d (behind_area looked a) starts more

-- the same of these pairs and, after them, of those to which the thread goes on after the areas before
abbrev pub BeginIn : Disk → List Bool → List Pair → List Area → Type 0
BeginIn d looked starts [] = Unit {0}
BeginIn d looked starts (a ∷ more) = (start : Pair) × (first_open looked starts ≡ Some start) × IsArea d looked start a
    × BeginIn d (behind_area looked a) (starts ++ area_tails a) more

-- areas are added, each of which begins at the first of these pairs that is open then, until none is
pub record AddsAreas (d : Disk) (before after : List Bool) (old new : List Area) (starts : List Pair) : Type 0 where
  pub more : List Area
  pub added : new ≡ old ++ more
  pub begin : BeginAmong d before starts more
  pub looked : after ≡ behind_areas before more
  pub closed : All (λ p. is_open after p ≡ false) starts
  pub len : length after ≡ length before
  pub grows : Grows before after
  pub fewer : unmarked after + length more ≤ unmarked before

-- where the thread goes on behind areas
abbrev pub tails_behind : List Area → List Pair
tails_behind areas = flat_map area_tails areas

-- no block was looked at
abbrev pub unlooked : Disk → List Bool
unlooked d = replicate d.count false

-- The first area is the root's; each other one begins at the first open pair of those to which the thread goes on after the areas before
-- it; these blocks were looked at; and no pair to which the thread goes on is left open.
pub record IsSurvey (d : Disk) (s : Survey) : Type 0 where
  pub first : Area
  pub later : List Area
  pub are : s.areas.items ≡ first ∷ later
  pub root_area : IsArea d (unlooked d) root first
  pub others : BeginIn d (behind_area (unlooked d) first) (area_tails first) later
  pub looked : s.looked.items ≡ behind_areas (unlooked d) s.areas.items
  pub complete : All (λ a. All (λ p. is_open s.looked.items p ≡ false) (area_tails a)) s.areas.items
