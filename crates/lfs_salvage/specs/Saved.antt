-- All that is saved of an image (own).
use Rattle.std.specs.Prelude.{◌≡◌, ◌⊎◌, ℕ, Bool, true, false, List, [], ◌∷◌, ◌++◌, Option, length}
use Rattle.lfs_block.specs.Disk.{Disk}
use Rattle.lfs_extract.specs.Extracted.{MakesFront}
use Rattle.lfs_extract.specs.declared.extract_fault.ExtractFault.{ExtractFault}
use Rattle.lfs_extract.specs.declared.extract_fault.ExtractFault.TheVariants.{CannotWrite, HostName, Memory}
use Rattle.lfs_extract.specs.PathBelow.{name_in}
use Rattle.lfs_host.specs.NewFolder.{Made, Makes}
use Rattle.lfs_salvage.specs.AllMade.{all_lost_made, all_lost_unsaved, all_lost_uses, front_behind_all, marked_used}
use Rattle.lfs_salvage.specs.AreaMade.{area_made, area_unsaved, area_uses}
use Rattle.lfs_salvage.specs.CallWords.{CallWords, first_area, later_areas}
use Rattle.lfs_salvage.specs.Lost.{front_behind_root, lost_word}
use Rattle.lfs_salvage.specs.PartsUsed.{areas_uses, uses_at_first}
use Rattle.lfs_salvage.specs.Saving.{MakesFirst}
use Rattle.lfs_salvage.specs.declared.block_use.BlockUse.{BlockUse}
use Rattle.lfs_salvage.specs.declared.front.Front.{Front}
use Rattle.lfs_salvage.specs.declared.front.Front.TheVariants.{Both}
use Rattle.lfs_salvage.specs.declared.saved.Saved.{Saved}
use Rattle.lfs_salvage.specs.declared.unsaved.Unsaved.{Unsaved}
use Rattle.lfs_survey.specs.Lone.{AreLone}
use Rattle.lfs_survey.specs.Survey.{IsSurvey}
use Rattle.lfs_survey.specs.Unread.{has_unread}
use Rattle.lfs_survey.specs.declared.area.Area.{Area}
use Rattle.lfs_survey.specs.declared.found.Found.{Found}
use Rattle.lfs_survey.specs.declared.survey.Survey.{Survey}

-- ---- of the areas of a survey: the root's, which is saved in the image's folder, and those at which the thread goes on

-- what is found of the root's
abbrev pub root_found : List Area → List Found
root_found [] = []
root_found (root ∷ later) = root.found.items

-- the folder for what no path leads to
abbrev pub lost_of : List ℕ → List Area → List ℕ
lost_of dir areas = name_in dir (lost_word (root_found areas))

-- what is made of them where blocks are used so
abbrev pub survey_made : Disk → List ℕ → List ℕ → List (List CallWords) → List BlockUse → List Area → List Made
survey_made d dir lost words uses [] = []
survey_made d dir lost words uses (root ∷ later) =
    area_made d dir 0 (first_area words) uses root
    ++ all_lost_made d dir lost (front_behind_root root.found.items) 1 (later_areas words) (area_uses d 0 uses root) later

abbrev pub survey_uses : Disk → List BlockUse → List Area → List BlockUse
survey_uses d uses [] = uses
survey_uses d uses (root ∷ later) = all_lost_uses d 1 (area_uses d 0 uses root) later

abbrev pub survey_unsaved : Disk → List (List CallWords) → List BlockUse → List Area → List Unsaved
survey_unsaved d words uses [] = []
survey_unsaved d words uses (root ∷ later) =
    area_unsaved d 0 (first_area words) uses root ++ all_lost_unsaved d 1 (later_areas words) (area_uses d 0 uses root) later

-- which folders lack behind them
abbrev pub survey_front : List Area → Front
survey_front [] = Both
survey_front (root ∷ later) = front_behind_all (front_behind_root root.found.items) later

-- ---- of blocks by themselves, behind them

-- where a pair of the survey wasn't read for what its blocks hold these are looked for, among those that are in no use; else there are none
abbrev pub AreLeft : Disk → Survey → List BlockUse → List Area → Type 0
AreLeft e survey uses lone =
    ((has_unread survey.areas.items ≡ true) × ((after : List Bool) × AreLone e (marked_used survey.looked.items 0 uses) after lone))
    ⊎ ((has_unread survey.areas.items ≡ false) × (lone ≡ []))

-- ---- all of it: what is made, what blocks are used for then, and what isn't saved

abbrev pub uses_first : Disk → List Area → List BlockUse
uses_first d areas = uses_at_first d.count areas

-- the blocks of the parts of those by themselves are in use before they are saved
abbrev pub uses_between : Disk → List Area → List Area → List BlockUse
uses_between d areas lone = areas_uses (survey_uses d (uses_first d areas) areas) (length areas) lone

abbrev pub survey_part : Disk → List ℕ → List (List CallWords) → List Area → List Made
survey_part d dir words areas = survey_made d dir (lost_of dir areas) words (uses_first d areas) areas

-- these are the words of the survey's areas, and those of the others
abbrev pub image_made : Disk → List ℕ → List (List CallWords) → List (List CallWords) → List Area → List Area → List Made
image_made d dir words others areas lone = survey_part d dir words areas
    ++ all_lost_made d dir (lost_of dir areas) (survey_front areas) (length areas) others (uses_between d areas lone) lone

abbrev pub image_uses : Disk → List Area → List Area → List BlockUse
image_uses d areas lone = all_lost_uses d (length areas) (uses_between d areas lone) lone

abbrev pub image_unsaved : Disk → List (List CallWords) → List (List CallWords) → List Area → List Area → List Unsaved
image_unsaved d words others areas lone =
    survey_unsaved d words (uses_first d areas) areas ++ all_lost_unsaved d (length areas) others (uses_between d areas lone) lone

-- This is saved of an image, whose pairs are read in the second one, and its files in the first: of the areas of a survey, and behind them
-- of those of blocks by themselves, under these words.
pub record IsSaved (d e : Disk) (s : Saved) (survey : Survey) (lone : List Area) (words others : List (List CallWords)) : Type 0 where
  pub surveyed : IsSurvey e survey
  pub left : AreLeft e survey (survey_uses d (uses_first d survey.areas.items) survey.areas.items) lone
  pub areas : s.areas.items ≡ survey.areas.items ++ lone
  pub uses : s.salvage.uses.items ≡ image_uses d survey.areas.items lone
  pub unsaved : s.salvage.unsaved.items ≡ image_unsaved d words others survey.areas.items lone

-- all of it is made that has a word, and what has none is among what isn't saved
pub record SavesAll (d e : Disk) (dir : List ℕ) (old new : Option (List Made)) (s : Saved) : Type 0 where
  pub survey : Survey
  pub lone : List Area
  pub words : List (List CallWords)
  pub others : List (List CallWords)
  pub is : IsSaved d e s survey lone words others
  pub made : Makes old new (image_made d dir words others survey.areas.items lone)

-- some of it is: of the survey, or of all
pub record SavesSome (d e : Disk) (dir : List ℕ) (Stops : List Made → Type 0) : Type 0 where
  pub survey : Survey
  pub surveyed : IsSurvey e survey
  pub words : List (List CallWords)
  pub stops : Stops (survey_part d dir words survey.areas.items)
      ⊎ ((lone : List Area) × (others : List (List CallWords))
      × AreLeft e survey (survey_uses d (uses_first d survey.areas.items) survey.areas.items) lone
      × Stops (image_made d dir words others survey.areas.items lone))

-- what is made if a fault ends it: what is before something that the host refuses, and a beginning of that at most; or if memory is refused
-- nothing, or what is in front
abbrev pub StopsSaving : Disk → Disk → List ℕ → Option (List Made) → Option (List Made) → ExtractFault → Type 0
StopsSaving d e dir old new CannotWrite = SavesSome d e dir (MakesFront old new)
StopsSaving d e dir old new Memory = (new ≡ old) ⊎ SavesSome d e dir (MakesFirst old new)
StopsSaving d e dir old new HostName = ⊥
