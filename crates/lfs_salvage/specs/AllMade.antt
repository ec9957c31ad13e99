-- What is made of all that is saved of an image (own).
use Rattle.std.specs.Prelude.{ℕ, ◌+◌, Bool, true, List, [], ◌∷◌, ◌++◌, if◌then◌else◌, slice_set}
use Rattle.lfs_block.specs.Disk.{Disk}
use Rattle.lfs_host.specs.NewFolder.{Made}
use Rattle.lfs_salvage.specs.AreaMade.{area_made, area_unsaved, area_uses}
use Rattle.lfs_salvage.specs.CallWords.{CallWords, first_area, later_areas}
use Rattle.lfs_salvage.specs.Fate.{is_free}
use Rattle.lfs_salvage.specs.Lost.{area_folder, front_behind, front_made, has_start}
use Rattle.lfs_salvage.specs.declared.block_use.BlockUse.{BlockUse}
use Rattle.lfs_salvage.specs.declared.front.Front.{Front}
use Rattle.lfs_salvage.specs.declared.unsaved.Unsaved.{Unsaved}
use Rattle.lfs_survey.specs.declared.area.Area.{Area}

-- ---- an area of this number to which no path leads: nothing where no part is found at its beginning

-- the folders that lack, and what is saved of it in its own
abbrev pub lost_made : Disk → List ℕ → List ℕ → Front → ℕ → List CallWords → List BlockUse → Area → List Made
lost_made d dir lost front number words uses a =
    if has_start a.found.items then front_made dir lost front ++ area_made d (area_folder lost a) number words uses a else []

abbrev pub lost_uses : Disk → ℕ → List BlockUse → Area → List BlockUse
lost_uses d number uses a = if has_start a.found.items then area_uses d number uses a else uses

abbrev pub lost_unsaved : Disk → ℕ → List CallWords → List BlockUse → Area → List Unsaved
lost_unsaved d number words uses a = if has_start a.found.items then area_unsaved d number words uses a else []

-- ---- such areas, of which the first has this number, each behind the ones before it

abbrev pub all_lost_made : Disk → List ℕ → List ℕ → Front → ℕ → List (List CallWords) → List BlockUse → List Area → List Made
all_lost_made d dir lost front number words uses [] = []
all_lost_made d dir lost front number words uses (a ∷ more) =
    lost_made d dir lost front number (first_area words) uses a
    ++ all_lost_made d dir lost (front_behind front a) (number + 1) (later_areas words) (lost_uses d number uses a) more

abbrev pub all_lost_uses : Disk → ℕ → List BlockUse → List Area → List BlockUse
all_lost_uses d number uses [] = uses
all_lost_uses d number uses (a ∷ more) = all_lost_uses d (number + 1) (lost_uses d number uses a) more

abbrev pub all_lost_unsaved : Disk → ℕ → List (List CallWords) → List BlockUse → List Area → List Unsaved
all_lost_unsaved d number words uses [] = []
all_lost_unsaved d number words uses (a ∷ more) =
    lost_unsaved d number (first_area words) uses a
    ++ all_lost_unsaved d (number + 1) (later_areas words) (lost_uses d number uses a) more

abbrev pub front_behind_all : Front → List Area → Front
front_behind_all front [] = front
front_behind_all front (a ∷ more) = front_behind_all (front_behind front a) more

-- ---- blocks by themselves are looked for where none was looked at, and none is in use

-- the table of blocks that were looked at, with those that are in use, of which the first use is that of this block
abbrev pub marked_used : List Bool → ℕ → List BlockUse → List Bool
marked_used looked n [] = looked
marked_used looked n (u ∷ us) = marked_used (if is_free u then looked else slice_set looked n true) (n + 1) us
