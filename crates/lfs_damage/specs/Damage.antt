-- Commits with a wrong checksum: a device wrote such a commit as a whole, and something has changed it since (own).
use Rattle.std.specs.Prelude.{ℕ, zero, suc, ◌/◌, ◌%◌, ◌^◌, ◌==◌, ◌&&◌, ◌||◌, not, nat_lt, nat_le, Bool, true, false, List, [], ◌∷◌, length, take, drop}
use Rattle.std.specs.Prelude.{Option, Some, None, option_and_then, bit_xor, count_ones, if◌then◌else◌}
use Rattle.std.specs.Option.{option_map_or}
use Rattle.std.specs.Int.{w32, from_le_bytes}
use Rattle.lfs_block.specs.Checksum.{crc}
use Rattle.lfs_block.specs.Disk.{Disk, block_of}
use Rattle.lfs_tag.specs.Tag.{id_of, len_of}
use Rattle.lfs_tag.specs.Commit.{Commit, word_after}
use Rattle.lfs_tag.specs.LogSeen.{is_erased, log_seen}
use Rattle.lfs_tag.specs.Reading.{TagFront, tag_at, Front, log_by}
use Rattle.lfs_meta.specs.Body.{Pair}
use Rattle.lfs_meta.specs.LiveBlock.{revision, is_later}
use Rattle.lfs_lower.specs.Commits.{closes}

-- ---- a commit

-- one tag more of a commit: one that closes it is answered, with the checksum of what it covers; else `more` reads what stands after it
abbrev pub closing_step : (ℕ → ℕ → List ℕ → Option (ℕ × TagFront)) → ℕ → Option TagFront → Option (ℕ × TagFront)
closing_step more sum None = None
closing_step more sum (Some f) =
    if closes f.item.word then Some (crc sum f.stored, f)
    else more (crc (crc sum f.stored) f.item.content) f.item.word f.rest

-- at most so many tags
unfoldable pub closing_within : ℕ → ℕ → ℕ → List ℕ → Option (ℕ × TagFront)
closing_within zero sum prev bytes = None
closing_within (suc n) sum prev bytes = closing_step (closing_within n) sum (tag_at prev bytes)

-- the tag that closes what bytes begin with as a commit, after the word `prev`, where `sum` is the checksum of what it covers so far; and
-- the checksum that stands in the tag's data if the commit is whole
unfoldable pub closing_at : ℕ → ℕ → List ℕ → Option (ℕ × TagFront)
closing_at sum prev bytes = closing_within (suc (length bytes)) sum prev bytes

-- a checksum was being written when the power went: none of it stands yet, or its first byte is right and more than one bit is not
abbrev pub is_cut_off : ℕ → ℕ → Bool
is_cut_off right stored = stored == 0xffffffff || (stored % 2 ^ 8 == right % 2 ^ 8 && nat_lt 1 (count_ones (bit_xor stored right)))

-- a checksum that was written and isn't the right one
abbrev pub is_wrong : ℕ → ℕ → Bool
is_wrong right stored = not (stored == right) && not (is_cut_off right stored)

-- a tag that closes a commit as littlefs writes it: it is of no entry, and has room for the checksum (SPEC.md, "0x5xx CRC")
abbrev pub has_checksum : TagFront → Bool
has_checksum f = id_of f.item.word == 0x3ff && nat_lt (len_of f.item.word) 0x3ff && nat_le 4 (length f.item.content)

-- what stands after a damaged commit, which this tag closes: the word that the next tag is XORed with, and the bytes
abbrev pub closed_wrong : ℕ × TagFront → Option (ℕ × List ℕ)
closed_wrong (right, f) =
    if has_checksum f && is_wrong right (from_le_bytes w32 (take 4 f.item.content)) then Some (word_after f.item.word, f.rest) else None

-- the first tag closes no commit: a commit without another tag hides nothing, and bytes of 0 read as tags that close commits
abbrev pub holds_tags : ℕ → List ℕ → Bool
holds_tags prev bytes = option_map_or (λ f. not (closes f.item.word)) (tag_at prev bytes) false

-- the damaged commit at the front of bytes, by what stands after it
abbrev pub damaged_at : ℕ → ℕ → List ℕ → Option (ℕ × List ℕ)
damaged_at sum prev bytes = if holds_tags prev bytes then option_and_then closed_wrong (closing_at sum prev bytes) else None

-- ---- a block

abbrev pub has_any : List Commit → Bool
has_any [] = false
has_any (c ∷ cs) = true

-- how far commits go: whether there are any, the checksum and the word with which the next one begins, and what stands after them
abbrev pub end_of : ℕ → Front → Bool × ℕ × ℕ × List ℕ
end_of sum f = (has_any f.commits, (if has_any f.commits then 0xffffffff else sum), f.last, f.rest)

-- the end of the commits at the front of bytes
abbrev pub end_from : ℕ → ℕ → List ℕ → Bool × ℕ × ℕ × List ℕ
end_from sum prev bytes = end_of sum (log_by closes sum prev bytes)

-- the end of the log of a block, as a device reads it: its first commit covers the revision too
abbrev pub device_end : List ℕ → Bool × ℕ × ℕ × List ℕ
device_end block = end_from (crc 0xffffffff (take 4 block)) 0xffffffff (drop 4 block)

-- the same, as version 2.0 reads it
abbrev pub plain_end : List ℕ → Bool × ℕ × ℕ × List ℕ
plain_end block =
    let log = log_seen block in
    let is_there = nat_lt 0 log.commits in
    (is_there, (if is_there then 0xffffffff else crc 0xffffffff (take 4 block)), log.last, drop log.end block)

-- in one of the two manners
abbrev pub log_end : Bool → List ℕ → Bool × ℕ × ℕ × List ℕ
log_end by_device block = if by_device then device_end block else plain_end block

-- Commits after a damaged one that fill their block to seven eighths are left of an earlier log: the damaged one was cut off, on a device
-- that doesn't erase.
abbrev pub fills : ℕ → Bool × ℕ × ℕ × List ℕ → Bool
fills size (is_there, sum, prev, rest) = is_there && not (is_erased rest && nat_le (size / 8) (length rest))

-- a damaged commit counts, by what stands after it
abbrev pub counts : ℕ → Option (ℕ × List ℕ) → Bool
counts size None = false
counts size (Some (next, rest)) = not (fills size (end_from 0xffffffff next rest))

-- a damaged commit stands after commits, in a block of so many bytes
abbrev pub stands_after : ℕ → Bool × ℕ × ℕ × List ℕ → Bool
stands_after size (is_there, sum, prev, rest) = counts size (damaged_at sum prev rest)

-- one stands after the log of a block
abbrev pub ends_damaged : Bool → List ℕ → Bool
ends_damaged by_device block = stands_after (length block) (log_end by_device block)

-- ---- a pair

-- of two blocks, of which the first has the later revision: it ends so; or it has no commit, so that the other one is read, and that ends so
abbrev pub is_passed_over : Bool → List ℕ → List ℕ → Bool
is_passed_over by_device later earlier =
    ends_damaged by_device later || (not (log_end by_device later).0 && ends_damaged by_device earlier)

-- an older state of a pair is read, since a later commit is damaged
abbrev pub is_damaged : Bool → List ℕ → List ℕ → Bool
is_damaged by_device first second =
    if is_later (revision second) (revision first) then is_passed_over by_device second first else is_passed_over by_device first second

-- the same of a pair of an image, whose blocks are both the image's
abbrev pub is_damaged_pair : Bool → Disk → Pair → Bool
is_damaged_pair by_device d pair =
    nat_lt pair.0 d.count && nat_lt pair.1 d.count && is_damaged by_device (block_of d pair.0) (block_of d pair.1)
