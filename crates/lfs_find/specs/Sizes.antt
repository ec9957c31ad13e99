-- The sizes of blocks that logs in a file state (own).
use Rattle.std.specs.Prelude.{ℕ, ◌+◌, ◌-◌, ◌/◌, ◌==◌, ◌&&◌, not, nat_le, nat_lt, Bool, List, [], ◌∷◌, ◌++◌, length, drop, Option, Some, None, zero, suc, option_and_then, if◌then◌else◌}
use Rattle.std.specs.List.{list_any}
use Rattle.lfs_block.specs.Geometry.{is_geometry}
use Rattle.lfs_lower.specs.Beginning.{log_superblock}
use Rattle.lfs_lower.specs.declared.told.Superblock.{Superblock}
use Rattle.lfs_find.specs.Place.{log_begins}

-- ---- how much is read

-- What is looked at is counted: one for a log, and one for each 64 KiB of an image that is tried. At a byte no more is looked at than
-- one for each 256 bytes before it, and the first 4,096. So the time grows with the length of a file, whatever stands in it. Images
-- have fewer logs, since their blocks have 256 bytes or more.
abbrev pub may_look : ℕ → ℕ → Bool
may_look at spent = nat_le spent (at / 256 + 4096)

-- ---- sizes

-- the size that the superblock of the log with which bytes begin states, if blocks have it
abbrev pub size_of_superblock : Superblock → Option ℕ
size_of_superblock s = if is_geometry s.size 2 then Some s.size else None

abbrev pub log_size : List ℕ → Option ℕ
log_size bytes = option_and_then size_of_superblock (log_superblock bytes)

-- so many sizes are tried
abbrev pub most_sizes : ℕ
most_sizes = 16

-- one size more, if it isn't there
abbrev pub with_size : List ℕ → Option ℕ → List ℕ
with_size sizes None = sizes
with_size sizes (Some size) =
    if nat_lt (length sizes) most_sizes && not (list_any (λ s. s == size) sizes) then sizes ++ size ∷ [] else sizes

-- the sizes that the logs of a file state from a place on, with so many bytes left after those that state `sizes`, and so much read there
abbrev pub sizes_from : List ℕ → ℕ → ℕ → List ℕ → List ℕ
sizes_from bytes zero spent sizes = sizes
sizes_from bytes (suc n) spent sizes =
    let at = length bytes - suc n in
    if log_begins (drop at bytes) && may_look at spent
    then sizes_from bytes n (spent + 1) (with_size sizes (log_size (drop at bytes)))
    else sizes_from bytes n spent sizes

-- the first ones that logs of a file state
abbrev pub sizes_stated : List ℕ → List ℕ
sizes_stated bytes = sizes_from bytes (length bytes) 0 []
