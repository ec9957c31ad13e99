-- The images that are found in a file (own).
use Rattle.std.specs.Prelude.{ℕ, ◌+◌, ◌-◌, ◌*◌, ◌/◌, ◌≡◌, ◌≤◌, ◌&&◌, nat_le, Bool, true, false, MatchBool, List, [], ◌∷◌, ◌++◌, length, take, drop, flat_map, Option, Some, None, zero, suc, option_to_list, if◌then◌else◌}
use Rattle.std.specs.Option.{option_or}
use Rattle.lfs_block.specs.Disk.{Disk, IsDisk, image_of}
use Rattle.lfs_block.specs.ImageFault.{IsNoImage}
use Rattle.lfs_fs.specs.Cause.{HasCause, IsOfFormat}
use Rattle.lfs_fs.specs.Mounted.{MountedValue, IsMountOf}
use Rattle.lfs_settle.specs.ReadAs.{IsReadAs}
use Rattle.lfs_find.specs.Place.{log_begins, place_at}
use Rattle.lfs_find.specs.Sizes.{may_look, sizes_stated}
use Rattle.lfs_find.specs.declared.found.Found.{Found}
use Rattle.lfs_find.specs.declared.place.Place.{Place}
use Rattle.lfs_find.specs.declared.search.Search.{Search}
use Rattle.lfs_find.specs.declared.unmounted.Unmounted.{Unmounted}
use Rattle.lfs_find.specs.declared.unmounted.Unmounted.TheVariants.{Image, Mount}

-- ---- verdicts

-- how many bytes an image has that begins at a place
abbrev pub extent : Place → ℕ
extent p = p.count * p.size

-- where it ends
abbrev pub end_of : Place → ℕ
end_of p = p.at + extent p

-- the file has all of it
abbrev pub IsWithin : List ℕ → Place → Type 0
IsWithin bytes p = (end_of p ≤ length bytes) × (extent p ≤ 67108864)

-- the image that is read at a place, as a device reads it
abbrev pub IsReadAt : List ℕ → Place → List ℕ → Type 0
IsReadAt bytes p image = IsReadAs true p.size (take (extent p) (drop p.at bytes)) image

-- what is said of an image: nothing if it mounts, and else a fault that it has
abbrev pub IsVerdict : Disk → Option Unmounted → Type 0
IsVerdict d None = IsDisk d × (m : MountedValue) × IsMountOf d m
IsVerdict d (Some (Image fault)) = IsNoImage fault d.size d.bytes
IsVerdict d (Some (Mount fault)) = IsDisk d × IsOfFormat fault × HasCause d fault

-- what is found at a place
pub record IsFoundAt (bytes : List ℕ) (found : Found) : Type 0 where
  pub image : List ℕ
  pub read : IsReadAt bytes found.place image
  pub verdict : IsVerdict (image_of found.place.size image) found.fault

-- it mounts
abbrev pub mounts : Option Unmounted → Bool
mounts None = true
mounts (Some fault) = false

-- ---- the best of several places

-- What is found at the first place that mounts, and else at the first one, which is `first` if some places were tried before; nothing
-- if there is none.
abbrev pub IsBest : List ℕ → List Place → Option Found → Option Found → Type 0
IsBest bytes [] first best = best ≡ first
IsBest bytes (p ∷ ps) first best =
    (found : Found) × (found.place ≡ p) × IsFoundAt bytes found
    × MatchBool (mounts found.fault) (best ≡ Some found) (IsBest bytes ps (option_or first (Some found)) best)

-- ---- places at a byte

-- the image whose block 0 stands one block before a byte, and not before another one
abbrev pub place_before : List ℕ → ℕ → ℕ → ℕ → Option Place
place_before bytes size from at = if nat_le (from + size) at then place_at bytes size (at - size) else None

-- the images whose first pair has a block of a size at a byte: as block 0, and else as block 1, if block 0 holds nothing
abbrev pub places_of : List ℕ → ℕ → ℕ → ℕ → List Place
places_of bytes from at size = option_to_list (place_at bytes size at) ++ option_to_list (place_before bytes size from at)

-- the same of all sizes
abbrev pub places_at : List ℕ → List ℕ → ℕ → ℕ → List Place
places_at bytes sizes from at = flat_map (places_of bytes from at) sizes

-- ---- the search

-- before the first byte
abbrev pub search_begun : Search
search_begun = record { from = 0; until = 0; spent = 0 }

-- a byte is looked at: no image that mounts has it, a log begins there, and not too much was read before
abbrev pub looks_at : List ℕ → Search → ℕ → Bool
looks_at bytes s at = nat_le s.from at && log_begins (drop at bytes) && may_look at s.spent

-- it is listed: an image that mounts, and one that doesn't if no other one that is listed and doesn't mount has its first byte
abbrev pub is_listed : Search → Found → Bool
is_listed s found = if mounts found.fault then true else nat_le s.until found.place.at

abbrev pub listed : Search → Option Found → Option Found
listed s None = None
listed s (Some found) = if is_listed s found then Some found else None

-- the search goes on after what mounts
abbrev pub from_behind : Search → Option Found → ℕ
from_behind s None = s.from
from_behind s (Some found) = if mounts found.fault then end_of found.place else s.from

abbrev pub until_behind : Search → Option Found → ℕ
until_behind s None = s.until
until_behind s (Some found) = if is_listed s found then end_of found.place else s.until

-- what is read of images, in 64 KiB
abbrev pub costs : List Place → ℕ
costs [] = 0
costs (p ∷ ps) = extent p / 65536 + 1 + costs ps

-- after a byte at which these places were tried, of which this is the best
abbrev pub search_behind : Search → List Place → Option Found → Search
search_behind s places best = record {
  from = from_behind s best;
  until = until_behind s best;
  spent = s.spent + 1 + costs places;
}

-- what is found at a byte that is looked at: what is listed of it, and how the search goes on
pub record IsLooked (bytes sizes : List ℕ) (s : Search) (at : ℕ) (found : Option Found) (behind : Search) : Type 0 where
  pub best : Option Found
  pub is_best : IsBest bytes (places_at bytes sizes s.from at) None best
  pub found_is : found ≡ listed s best
  pub behind_is : behind ≡ search_behind s (places_at bytes sizes s.from at) best

-- what is found in the last so many bytes of a file, where the search has come to them
abbrev pub AreFoundIn : List ℕ → List ℕ → ℕ → Search → List Found → Type 0
AreFoundIn bytes sizes zero s found = found ≡ []
AreFoundIn bytes sizes (suc n) s found =
    let at = length bytes - suc n in
    MatchBool (looks_at bytes s at)
    ((here : Option Found) × (behind : Search) × IsLooked bytes sizes s at here behind
    × (more : List Found) × (found ≡ option_to_list here ++ more) × AreFoundIn bytes sizes n behind more)
    (AreFoundIn bytes sizes n s found)

-- what is found in a file
abbrev pub AreFound : List ℕ → List Found → Type 0
AreFound bytes found = AreFoundIn bytes (sizes_stated bytes) (length bytes) search_begun found
