-- The live block of a pair, and what the pair holds (SPEC.md, "Metadata pairs").
use Rattle.std.specs.Prelude.{ℕ, ◌+◌, ◌-◌, ◌%◌, ◌^◌, ◌&&◌, nat_lt, nat_le, Bool, List, take, Option, Some, None, option_map}
use Rattle.std.specs.Prelude.{option_and_then, if◌then◌else◌}
use Rattle.std.specs.Int.{w32, from_le_bytes}
use Rattle.lfs_block.specs.Disk.{Disk, block_of}
use Rattle.lfs_tag.specs.Commit.{Item}
use Rattle.lfs_tag.specs.LogSeen.{LogSeen, log_seen}
use Rattle.lfs_meta.specs.declared.live_block.LiveBlock.{LiveBlock}
use Rattle.lfs_meta.specs.declared.live_block.LiveBlock.TheVariants.{First, Second, Neither}
use Rattle.lfs_meta.specs.Body.{Pair}
use Rattle.lfs_meta.specs.Part.{RawPart, StoredPart}
use Rattle.lfs_meta.specs.Replay.{replay}
use Rattle.lfs_meta.specs.Complete.{complete_part}

-- a block's revision, its first four bytes
abbrev pub revision : List ℕ → ℕ
revision block = from_le_bytes w32 (take 4 block)

-- Revision a comes after b: revisions are counted around 2 ^ 32.
abbrev pub is_later : ℕ → ℕ → Bool
is_later a b = let ahead = (a + 2 ^ 32 - b) % 2 ^ 32 in nat_le 1 ahead && nat_lt ahead (2 ^ 31)

-- the log of a block, where it has a commit
abbrev pub committed_log : List ℕ → Option LogSeen
committed_log block = if nat_lt 0 (log_seen block).commits then Some (log_seen block) else None

-- the tags of a block's log, where it has a commit
abbrev pub committed : List ℕ → Option (List Item)
committed block = option_map (λ log. log.tags) (committed_log block)

-- the first block where it has a log, else another choice
abbrev pub first_or : Option LogSeen → LiveBlock → LiveBlock
first_or None other = other
first_or (Some log) other = First log

-- the second block where it has a log, else another choice
abbrev pub second_or : Option LogSeen → LiveBlock → LiveBlock
second_or None other = other
second_or (Some log) other = Second log

-- The live block: the second one is tried first where its revision is the later one, else the first one (own: the first
-- where neither is later).
abbrev pub live_block : List ℕ → List ℕ → LiveBlock
live_block first second =
    if is_later (revision second) (revision first) then second_or (committed_log second) (first_or (committed_log first) Neither)
    else first_or (committed_log first) (second_or (committed_log second) Neither)

-- the log of the live block
abbrev pub live_log : LiveBlock → Option LogSeen
live_log (First log) = Some log
live_log (Second log) = Some log
live_log Neither = None

-- the tags of the live block
abbrev pub live_tags : List ℕ → List ℕ → Option (List Item)
live_tags first second = option_map (λ log. log.tags) (live_log (live_block first second))

-- the tags of a pair's live block
abbrev pub tags_of : Disk → Pair → Option (List Item)
tags_of d pair = live_tags (block_of d pair.0) (block_of d pair.1)

-- the part that a pair holds, undefined where no block has a commit or the replay is undefined
abbrev pub part_of : Disk → Pair → Option RawPart
part_of d pair = option_and_then replay (tags_of d pair)

-- the same, where all entries are complete
abbrev pub stored_part_of : Disk → Pair → Option StoredPart
stored_part_of d pair = option_and_then complete_part (part_of d pair)
