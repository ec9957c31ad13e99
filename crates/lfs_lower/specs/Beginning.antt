-- What the last superblock states of an image with which bytes begin, by the commits of its blocks (littlefs disk version 2.1).
use Rattle.std.specs.Prelude.{ℕ, ◌≡◌, ◌<◌, ◌==◌, ◌&&◌, nat_lt, min, List, length, take, Option, Some, None, IsSome, zero, suc, if◌then◌else◌}
use Rattle.std.specs.Option.{option_or}
use Rattle.lfs_block.specs.Disk.{Disk, block_of, image_of}
use Rattle.lfs_block.specs.Geometry.{is_geometry}
use Rattle.lfs_meta.specs.Body.{Pair}
use Rattle.lfs_meta.specs.LiveBlock.{revision, is_later}
use Rattle.lfs_fs.specs.Pair.{root}
use Rattle.lfs_lower.specs.Spelled.{later_commits}
use Rattle.lfs_lower.specs.Told.{stated_in, told_nothing}
use Rattle.lfs_lower.specs.declared.seen_block.Stated.{Stated}
use Rattle.lfs_lower.specs.declared.told.Superblock.{Superblock}
use Rattle.lfs_lower.specs.declared.told.Told.{Told}

-- ---- a pair

-- what the commits of a block tell
abbrev pub log_told : List ℕ → Stated
log_told block = stated_in (later_commits block)

-- the first of two if it has a commit, else the second
abbrev pub there_or : Stated → Stated → Stated
there_or a b = if a.is_there then a else b

-- what the live block of two tells: the one with the later revision, if it has a commit, and else the other
abbrev pub live_told : List ℕ → List ℕ → Stated
live_told first second =
    if is_later (revision second) (revision first) then there_or (log_told second) (log_told first)
    else there_or (log_told first) (log_told second)

-- what a pair of an image tells: nothing if there is no pair, or a block stands past the end
abbrev pub told_at : Disk → Option Pair → Told
told_at d None = told_nothing
told_at d (Some p) =
    if nat_lt p.0 d.count && nat_lt p.1 d.count then (live_told (block_of d p.0) (block_of d p.1)).told else told_nothing

-- ---- along hard tails

-- the superblock of a pair: a struct under its name
abbrev pub superblock_in : Told → Option Superblock
superblock_in t = if t.is_named then t.superblock else None

-- the pair after one that holds a superblock alone, or nothing, in the same directory
abbrev pub lead : Told → Option Pair
lead t = if t.is_alone then t.next else None

-- the last superblock of so many pairs, each of which leads to the next, where `before` is that of the pairs before them
abbrev pub last_along : Disk → ℕ → Option Superblock → Option Pair → Option Superblock
last_along d zero before from = before
last_along d (suc n) before from = last_along d n (option_or (superblock_in (told_at d from)) before) (lead (told_at d from))

-- so many pairs are looked at: a device expands its superblock seldom, each time after many more writes than the time before (own)
abbrev pub most_superblocks : ℕ
most_superblocks = 16

-- ---- images

-- what the last superblock states of the image of blocks of a size with which bytes begin
unfoldable pub superblock_of : ℕ → List ℕ → Option Superblock
superblock_of size bytes =
    last_along (image_of size bytes) most_superblocks None (Some root)

-- the same, if it states this size
abbrev pub stating : ℕ → Option Superblock → Option Superblock
stating size None = None
stating size (Some s) = if s.size == size then Some s else None

-- an image of blocks of this size begins with the bytes: blocks have the size, and its last superblock states it
abbrev pub begins_with : ℕ → List ℕ → Option Superblock
begins_with size bytes = if is_geometry size 2 then stating size (superblock_of size bytes) else None

-- the least size of blocks in which an image begins with the bytes
abbrev pub IsSize : List ℕ → Option ℕ → Type 0
IsSize bytes (Some size) = IsSome (begins_with size bytes) × ((less : ℕ) → less < size → begins_with less bytes ≡ None)
IsSize bytes None = (size : ℕ) → begins_with size bytes ≡ None

-- ---- logs alone

-- as many bytes as the longest log has
abbrev pub most_log : ℕ
most_log = 65536

-- the superblock of the log with which bytes begin, whatever the size of its block is
abbrev pub log_superblock : List ℕ → Option Superblock
log_superblock bytes =
    if nat_lt (length bytes) 4 then None else superblock_in (log_told (take (min (length bytes) most_log) bytes)).told
