-- The folder for what no path leads to (own).
use Rattle.std.specs.Prelude.{◌≢◌, ℕ, ◌-◌, ◌++◌, max, Bool, true, false, List, [], ◌∷◌, codes, fold, if◌then◌else◌, Contains, length, nat_eq, replicate}
use Rattle.std.specs.Fmt.{decimal}
use Rattle.std.specs.List.{starts_with}
use Rattle.lfs_extract.specs.PathBelow.{name_in}
use Rattle.lfs_host.specs.NewFolder.{Made, FolderMade}
use Rattle.lfs_meta.specs.Entry.{StoredEntry}
use Rattle.lfs_meta.specs.Name.{Name}
use Rattle.lfs_survey.specs.AllPlaces.{found_entries}
use Rattle.lfs_salvage.specs.declared.front.Front.{Front}
use Rattle.lfs_salvage.specs.declared.front.Front.TheVariants.{Both, Lost, There}
use Rattle.lfs_survey.specs.declared.area.Area.{Area}
use Rattle.lfs_survey.specs.declared.call.Call.{Call}
use Rattle.lfs_survey.specs.declared.found.Found.{Found}
use Rattle.lfs_survey.specs.declared.found.Found.TheVariants.{Part, Refused}

-- ---- its name

abbrev pub lost_name : List ℕ
lost_name = codes "lost+found"

-- with so many tildes behind it that name is longer than one that begins so
abbrev pub tildes_for : Name → ℕ
tildes_for n = if starts_with nat_eq n lost_name then length n - 9 else 0

-- than each one of entries, and as many as there are already
abbrev pub tildes_of : ℕ → List StoredEntry → ℕ
tildes_of most es = fold (λ m e. max m (tildes_for e.name)) most es

-- than each one of what is found
abbrev pub tildes_in : List Found → ℕ
tildes_in fs = fold (λ m f. tildes_of m (found_entries f)) 0 fs

-- the word that no name among these has
abbrev pub lost_word : List Found → List ℕ
lost_word found = lost_name ++ replicate (tildes_in found) 126

-- the law: none has it
abbrev pub LostWordIsNew : Type 0
LostWordIsNew = (found : List Found) (f : Found) (e : StoredEntry) → Contains found f → Contains (found_entries f) e
    → e.name ≢ lost_word found

-- ---- what is in it

-- a part is found where an area begins
abbrev pub has_start : List Found → Bool
has_start [] = false
has_start (Part p ∷ fs) = true
has_start (Refused fault ∷ fs) = false

-- the first block of the pair that it begins at
abbrev pub first_block : List Call → ℕ
first_block [] = 0
first_block (c ∷ cs) = c.pair.0

-- the folder of an area to which no path leads has that block's number
abbrev pub area_folder : List ℕ → Area → List ℕ
area_folder lost a = name_in lost (decimal (first_block a.calls.items))

-- ---- the folders in front of the first of them

-- that of the image and that for what no path leads to; this alone; or neither, since they are there
abbrev pub front_made : List ℕ → List ℕ → Front → List Made
front_made dir lost Both = FolderMade dir ∷ FolderMade lost ∷ []
front_made dir lost Lost = FolderMade lost ∷ []
front_made dir lost There = []

-- that of the image is made with the root, where a part of it is found
abbrev pub front_behind_root : List Found → Front
front_behind_root found = if has_start found then Lost else Both

-- both are there behind an area that begins
abbrev pub front_behind : Front → Area → Front
front_behind front a = if has_start a.found.items then There else front
