-- At which place of a survey each block was looked at (own).
use Rattle.std.specs.Prelude.{◌≡◌, ◌<◌, ◌≤◌, ◌==◌, ◌&&◌, ◌||◌, ℕ, not, Bool, true, false, List, [], ◌∷◌, Option, None, Some, if◌then◌else◌, length, slice_index_or, slice_set, unwrap_or}
use Rattle.std.specs.Option.{option_map_or}
use Rattle.lfs_block.specs.declared.mount_fault.MountFault.{MountFault}
use Rattle.lfs_block.specs.declared.mount_fault.MountFault.TheVariants.{BlockRange, BlockTwice}
use Rattle.lfs_survey.specs.AllPlaces.{call_at, found_at, places_of}
use Rattle.lfs_survey.specs.declared.area.Area.{Area}
use Rattle.lfs_survey.specs.declared.call.Call.{Call}
use Rattle.lfs_survey.specs.declared.found.Found.{Found}
use Rattle.lfs_survey.specs.declared.found.Found.TheVariants.{Part, Refused}
use Rattle.lfs_survey.specs.declared.owners.Owners.{Owners}
use Rattle.lfs_survey.specs.declared.place.Place.{Place}

-- a pair is turned away: a block of it isn't the image's, or was looked at before
abbrev pub is_turned : MountFault → Bool
is_turned BlockRange = true
is_turned BlockTwice = true
is_turned _ = false

-- another one is looked at, whether or not it is read
abbrev pub is_looked : Found → Bool
is_looked (Part p) = true
is_looked (Refused fault) = not (is_turned fault)

-- a pair has a block
abbrev pub has_block : ℕ → Call → Bool
has_block b c = (c.pair.0 == b) || (c.pair.1 == b)

-- the block is looked at at that place
abbrev pub is_looked_at : List Area → ℕ → Place → Bool
is_looked_at areas b p = option_map_or is_looked (found_at areas p) false && option_map_or (has_block b) (call_at areas p) false

-- the first of these places at which it is
abbrev pub first_owner : List Area → ℕ → List Place → Option Place
first_owner areas b [] = None
first_owner areas b (p ∷ ps) = if is_looked_at areas b p then Some p else first_owner areas b ps

-- ---- in a table of one place a block

-- the place of a block is noted, unless one is
abbrev pub noted : List (Option Place) → ℕ → Place → List (Option Place)
noted places b p = slice_set places b (Some (unwrap_or (slice_index_or places b None) p))

-- the place that is noted, or else this one, if the block is looked at there
abbrev pub then_owner : Option Place → Bool → Place → Option Place
then_owner (Some q) is p = Some q
then_owner None is p = if is then Some p else None

-- of each block the first of these places is noted
abbrev pub AreNoted : List Area → List Place → List (Option Place) → Type 0
AreNoted areas ps places = (b : ℕ) → b < length places → slice_index_or places b None ≡ first_owner areas b ps

-- the place that is noted of a block, if one is
abbrev pub owner_in : Owners → ℕ → Option Place
owner_in o b = slice_index_or o.places.items b None

-- Of each of so many blocks the first place is noted at which it is looked at, and of other blocks none.
pub record AreOwners (areas : List Area) (count : ℕ) (o : Owners) : Type 0 where
  pub counted : o.count ≡ count
  pub within : (b : ℕ) → b < count → owner_in o b ≡ first_owner areas b (places_of areas)
  pub past : (b : ℕ) → count ≤ b → owner_in o b ≡ None
