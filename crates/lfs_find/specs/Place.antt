-- Where in a file an image may begin (own).
use Rattle.std.specs.Prelude.{ℕ, ◌*◌, ◌==◌, ◌&&◌, ◌||◌, nat_le, Bool, List, length, drop, Option, Some, None, option_and_then, if◌then◌else◌}
use Rattle.std.specs.Int.{w32, from_le_bytes}
use Rattle.lfs_block.specs.Geometry.{is_geometry}
use Rattle.lfs_lower.specs.Beginning.{begins_with}
use Rattle.lfs_lower.specs.declared.told.Superblock.{Superblock}
use Rattle.lfs_find.specs.declared.place.Place.{Place}

-- ---- logs

-- what a device writes after the revision of a first pair's log: the name of the superblock, the creation of its entry, or a hard tail
abbrev pub is_first_word : ℕ → Bool
is_first_word word = (word == 0xf7ff0ff0) || (word == 0xffffefbf) || (word == 0xf703e09f)

-- the log of an image's first pair may begin with the bytes
abbrev pub log_begins : List ℕ → Bool
log_begins bytes = nat_le 8 (length bytes) && is_first_word (from_le_bytes w32 (drop 4 bytes))

-- ---- places

-- images may have as many blocks as a superblock states, and so many bytes hold them
abbrev pub fits_in : ℕ → Superblock → Bool
fits_in room s = is_geometry s.size s.count && nat_le (s.count * s.size) room

-- the place that a superblock states, if it fits in so many bytes
abbrev pub place_in : ℕ → ℕ → Superblock → Option Place
place_in at room s = if fits_in room s then Some (record { at = at; version = s.version; size = s.size; count = s.count }) else None

-- the image of blocks of a size that begins at a byte of a file
abbrev pub place_at : List ℕ → ℕ → ℕ → Option Place
place_at bytes size at = option_and_then (place_in at (length (drop at bytes))) (begins_with size (drop at bytes))
