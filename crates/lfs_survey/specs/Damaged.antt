-- Places of a survey at which an older state is read, since a later commit is damaged; and later parts of directories that have no entry
-- (own).
use Rattle.std.specs.Prelude.{◌&&◌, Bool, true, false, List, [], ◌∷◌}
use Rattle.std.specs.List.{filter, list_any}
use Rattle.std.specs.Option.{option_map_or}
use Rattle.lfs_block.specs.Disk.{Disk}
use Rattle.lfs_meta.specs.Entry.{StoredEntry}
use Rattle.lfs_damage.specs.Damage.{is_damaged_pair}
use Rattle.lfs_survey.specs.AllPlaces.{call_at, found_at, places_of}
use Rattle.lfs_survey.specs.declared.area.Area.{Area}
use Rattle.lfs_survey.specs.declared.found.Found.{Found}
use Rattle.lfs_survey.specs.declared.found.Found.TheVariants.{Part, Refused}
use Rattle.lfs_survey.specs.declared.place.Place.{Place}
use Rattle.lfs_survey.specs.declared.way.Way.{Way}
use Rattle.lfs_survey.specs.declared.way.Way.TheVariants.{Start, Entry, Next}

-- ---- damaged commits

-- a part is found that is an older state of its pair: in the image's own bytes a later commit is damaged
abbrev pub is_older : Bool → Disk → Found → Bool
is_older by_device own (Part p) = is_damaged_pair by_device own p.0
is_older by_device own (Refused fault) = false

-- one is, in areas
abbrev pub has_older : Bool → Disk → List Area → Bool
has_older by_device own areas = list_any (λ a. list_any (is_older by_device own) a.found.items) areas

abbrev pub is_older_at : Bool → Disk → List Area → Place → Bool
is_older_at by_device own areas p = option_map_or (is_older by_device own) (found_at areas p) false

-- all such places, in order
abbrev pub older_places : Bool → Disk → List Area → List Place
older_places by_device own areas = filter (is_older_at by_device own areas) (places_of areas)

-- ---- parts without an entry

abbrev pub is_none : List StoredEntry → Bool
is_none [] = true
is_none (e ∷ es) = false

-- a directory goes on at a pair
abbrev pub goes_on : Way → Bool
goes_on Start = false
goes_on (Entry from index) = false
goes_on (Next from) = true

-- a part without an entry is found
abbrev pub is_empty_part : Found → Bool
is_empty_part (Part p) = is_none p.1.entries
is_empty_part (Refused fault) = false

-- a directory goes on in a part without an entry
abbrev pub is_empty_at : List Area → Place → Bool
is_empty_at areas p = option_map_or (λ c. goes_on c.way) (call_at areas p) false && option_map_or is_empty_part (found_at areas p) false

-- all such places, in order
abbrev pub empty_places : List Area → List Place
empty_places areas = filter (is_empty_at areas) (places_of areas)
