-- Where on its path a step is refused (own).
use Rattle.std.specs.Borrow.{Bor}
use Rattle.std.specs.Prelude.{◌≡◌, ◌⊎◌, ◌<◌, ℕ, true, false, List, Option, None, Some, length}
use Rattle.lfs_draft.specs.Reaches.{Reaches}
use Rattle.lfs_fs.specs.Path.{IsPathText, Path}
use Rattle.lfs_fs.specs.Volume.{Volume}
use Rattle.lfs_request.specs.declared.place.Place.{Place}

-- so many names of a path lead to something
abbrev pub LeadsSoFar : Volume → List ℕ → ℕ → Type 0
LeadsSoFar v text n = (names : Path) × IsPathText text names × Reaches v names n

-- so many do, and not all
abbrev pub LeadsShort : Volume → List ℕ → ℕ → Type 0
LeadsShort v text n = (names : Path) × IsPathText text names × Reaches v names n × (n < length names)

-- all do
abbrev pub LeadsToItsEnd : Volume → List ℕ → Type 0
LeadsToItsEnd v text = (names : Path) × IsPathText text names × Reaches v names (length names)

-- The place is on the only path; where something is moved, on the path that it is moved from, or, where all of that leads to something, on
-- the one that it is moved to.
abbrev pub IsPlaceOn : Volume → List ℕ → Option (Bor (List ℕ)) → Place → Type 0
IsPlaceOn v path None place = (place.is_of_target ≡ false) × LeadsSoFar v path place.names
IsPlaceOn v path (Some target) place =
    ((place.is_of_target ≡ false) × LeadsShort v path place.names)
    ⊎ ((place.is_of_target ≡ true) × LeadsToItsEnd v path × LeadsSoFar v target.now place.names)
