-- All places of areas, what stands at each, and the first one that has a property (own).
use Rattle.std.specs.Prelude.{◌≡◌, ℕ, suc, List, [], ◌∷◌, ◌++◌, All, Option, None, Some, flat_map, length, map, slice_get, take}
use Rattle.std.specs.List.{range_with_len}
use Rattle.std.specs.Option.{option_and_then}
use Rattle.lfs_meta.specs.Entry.{StoredEntry}
use Rattle.lfs_survey.specs.declared.area.Area.{Area}
use Rattle.lfs_survey.specs.declared.call.Call.{Call}
use Rattle.lfs_survey.specs.declared.entry_place.EntryPlace.{EntryPlace}
use Rattle.lfs_survey.specs.declared.found.Found.{Found}
use Rattle.lfs_survey.specs.declared.found.Found.TheVariants.{Part, Refused}
use Rattle.lfs_survey.specs.declared.place.Place.{Place}

-- the pair that is looked at there
abbrev pub call_at : List Area → Place → Option Call
call_at areas p = option_and_then (λ (a : Area). slice_get a.calls.items p.call) (slice_get areas p.area)

-- what is found there
abbrev pub found_at : List Area → Place → Option Found
found_at areas p = option_and_then (λ (a : Area). slice_get a.found.items p.call) (slice_get areas p.area)

-- the entries of what is found
abbrev pub found_entries : Found → List StoredEntry
found_entries (Part p) = p.1.entries
found_entries (Refused fault) = []

-- the entry there
abbrev pub entry_at_place : List Area → EntryPlace → Option StoredEntry
entry_at_place areas p = option_and_then (λ (f : Found). slice_get (found_entries f) p.entry) (found_at areas p.at)

-- the places of so many calls of the area of this number
abbrev pub area_places : ℕ → ℕ → List Place
area_places area n = map (λ call. record { area = area; call = call }) (range_with_len 0 n)

-- those of areas, of which the first has this number
abbrev pub area_places_from : ℕ → List Area → List Place
area_places_from n [] = []
area_places_from n (a ∷ more) = area_places n (length a.found.items) ++ area_places_from (suc n) more

-- all places, in order
abbrev pub places_of : List Area → List Place
places_of areas = area_places_from 0 areas

-- the places of entries of what is found at a place
abbrev pub entry_places_at : Place → Option Found → List EntryPlace
entry_places_at p None = []
entry_places_at p (Some f) = map (λ entry. record { at = p; entry = entry }) (range_with_len 0 (length (found_entries f)))

-- the places of all entries, in order
abbrev pub entry_places_of : List Area → List EntryPlace
entry_places_of areas = flat_map (λ p. entry_places_at p (found_at areas p)) (places_of areas)

-- the first element of a list that has a property, where one has it
abbrev pub IsFirstOf : {X : Type 0} → (X → Type 0) → List X → Option X → Type 0
IsFirstOf P xs None = All (λ x. P x → ⊥) xs
IsFirstOf P xs (Some x) = P x × ((i : ℕ) × (slice_get xs i ≡ Some x) × All (λ y. P y → ⊥) (take i xs))
