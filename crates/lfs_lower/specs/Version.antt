-- The disk version of commits that version 2.0 doesn't read, where a later version takes their block for the live one (own).
use Rattle.std.specs.Prelude.{ℕ, ◌*◌, ◌==◌, ◌||◌, nat_lt, List, length, take, drop, Option, Some, None, option_map}
use Rattle.std.specs.Prelude.{if◌then◌else◌}
use Rattle.std.specs.Option.{option_and_then}
use Rattle.lfs_block.specs.Checksum.{crc}
use Rattle.lfs_tag.specs.Commit.{Commit}
use Rattle.lfs_tag.specs.LogSeen.{log_seen}
use Rattle.lfs_meta.specs.LiveBlock.{revision, is_later}
use Rattle.lfs_lower.specs.Commits.{commits_from}
use Rattle.lfs_lower.specs.Told.{stated_in, version_told}
use Rattle.lfs_lower.specs.declared.seen_block.BlockSeen.{BlockSeen}
use Rattle.lfs_lower.specs.declared.seen_pair.PairSeen.{PairSeen}
use Rattle.lfs_lower.specs.declared.version.StatedVersion.{StatedVersion}

-- ---- blocks

-- the commits of a later version behind a block's log: the first of them covers the revision too where the log has no commit
abbrev pub unread_commits : List ℕ → List Commit
unread_commits block =
    let log = log_seen block in
    commits_from (if nat_lt 0 log.commits then 0xffffffff else crc 0xffffffff (take 4 block)) log.last (drop log.end block)

-- a block of a pair, by its number there, as both versions read it: whether its log has a commit, and what the commits behind that state
abbrev pub block_seen : ℕ → List ℕ → BlockSeen
block_seen number block = record {
  number = number;
  has_log = nat_lt 0 (log_seen block).commits;
  unread = stated_in (unread_commits block);
}

-- the first block where a later version finds a commit in it, else the second one
abbrev pub first_live : BlockSeen → BlockSeen → BlockSeen
first_live a b = if a.has_log || a.unread.is_there then a else b

-- the block that a later version takes for the live one: of two, the second is tried first where its revision is the later one
abbrev pub live_seen : List ℕ → List ℕ → BlockSeen
live_seen first second =
    if is_later (revision second) (revision first) then first_live (block_seen 1 second) (block_seen 0 first)
    else first_live (block_seen 0 first) (block_seen 1 second)

-- ---- pairs

-- a pair as both versions read it: whether version 2.0 reads a commit of either block, and the block that a later version takes for
-- the live one
abbrev pub pair_seen : List ℕ → List ℕ → PairSeen
pair_seen first second = record {
  is_read = nat_lt 0 (log_seen first).commits || nat_lt 0 (log_seen second).commits;
  live = live_seen first second;
}

-- the same of the first two blocks of an image, of this size; none where there aren't two
unfoldable pub root_seen : List ℕ → ℕ → Option PairSeen
root_seen image size =
    if nat_lt size 4 || nat_lt (length image) (2 * size) then None
    else Some (pair_seen (take size image) (take size (drop size image)))

-- ---- images

-- a version other than 2.0
abbrev pub other_version : Option ℕ → Option ℕ
other_version None = None
other_version (Some version) = if version == 0x20000 then None else Some version

-- the version, other than 2.0, that is stated last by commits which version 2.0 doesn't read, in the block that a later version takes
-- for the live one; none where version 2.0 reads no commit of either block, which isn't passed over in silence
abbrev pub version_behind : PairSeen → Option ℕ
version_behind pair = if pair.is_read then other_version (version_told pair.live.unread.told) else None

-- the same where version 2.0 reads no commit of either block, with the number of that block
abbrev pub version_alone : PairSeen → Option StatedVersion
version_alone pair =
    if pair.is_read then None
    else option_map (λ version. record { block = pair.live.number; version = version }) (other_version (version_told pair.live.unread.told))

-- that of the first two blocks of an image
abbrev pub later_version : List ℕ → ℕ → Option ℕ
later_version image size = option_and_then version_behind (root_seen image size)

-- that of an image of which version 2.0 reads no commit there
abbrev pub unread_version : List ℕ → ℕ → Option StatedVersion
unread_version image size = option_and_then version_alone (root_seen image size)
