-- Reading: what stands at the front of bytes, as functions that compute. Laws join them to what is spelled so (own).
use Rattle.std.specs.Prelude.{ℕ, zero, suc, ◌^◌, ◌==◌, ◌&&◌, nat_lt, nat_le, Bool, List, [], ◌∷◌, length, take, drop, Option, Some, None}
use Rattle.std.specs.Prelude.{option_map, bit_xor, if◌then◌else◌}
use Rattle.std.specs.Int.{w32, from_be_bytes, from_le_bytes}
use Rattle.lfs_block.specs.Checksum.{crc}
use Rattle.lfs_tag.specs.Tag.{main_kind, len_of, data_len}
use Rattle.lfs_tag.specs.Commit.{Item, Commit, word_after, next_word}

-- a tag with its data at the front of bytes: its four bytes as stored, and the bytes behind its data
pub record TagFront : Type 0 where
  pub stored : List ℕ
  pub item : Item
  pub rest : List ℕ

-- a valid word with as many bytes behind it as it says
abbrev pub tag_behind : List ℕ → ℕ → List ℕ → Option TagFront
tag_behind stored word behind =
    let n = data_len word in
    if nat_lt word (2 ^ 31) && nat_le n (length behind)
    then Some (record { stored = stored; item = record { word = word; content = take n behind }; rest = drop n behind })
    else None

-- the tag at the front of bytes, behind the word `prev`: none where it isn't valid or runs past the end
unfoldable pub tag_at : ℕ → List ℕ → Option TagFront
tag_at prev bytes =
    if nat_lt (length bytes) 4 then None
    else tag_behind (take 4 bytes) (bit_xor (from_be_bytes w32 (take 4 bytes)) prev) (drop 4 bytes)

-- a commit at the front of bytes, and the bytes behind it
pub record CommitFront : Type 0 where
  pub commit : Commit
  pub rest : List ℕ

-- the commit has one more tag at its front
abbrev pub with_tag : Item → CommitFront → CommitFront
with_tag t r = record {
  commit = record { tags = t ∷ r.commit.tags; closing = r.commit.closing; padding = r.commit.padding };
  rest = r.rest;
}

-- a checksum's tag closes its commit: it isn't deleted, has four bytes or more, and they begin with the checksum
unfoldable pub closed : ℕ → TagFront → Option CommitFront
closed sum f =
    let content = f.item.content in
    if nat_lt (len_of f.item.word) 0x3ff && nat_le 4 (length content) && (from_le_bytes w32 (take 4 content) == sum)
    then Some (record { commit = record { tags = []; closing = f.item.word; padding = drop 4 content }; rest = f.rest })
    else None

-- one tag more of a commit, where `closes` says by a tag's word whether it closes the commit, and `more` reads what is behind it
abbrev pub commit_step : (ℕ → Bool) → (ℕ → ℕ → List ℕ → Option CommitFront) → ℕ → Option TagFront → Option CommitFront
commit_step closes more sum None = None
commit_step closes more sum (Some f) =
    if closes f.item.word then closed (crc sum f.stored) f
    else option_map (with_tag f.item) (more (crc (crc sum f.stored) f.item.content) f.item.word f.rest)

-- at most so many tags
unfoldable pub commit_within : (ℕ → Bool) → ℕ → ℕ → ℕ → List ℕ → Option CommitFront
commit_within closes zero sum prev bytes = None
commit_within closes (suc n) sum prev bytes = commit_step closes (commit_within closes n) sum (tag_at prev bytes)

-- the commit at the front of bytes, behind the word `prev`, where `sum` is the checksum of what it covers so far
unfoldable pub commit_by : (ℕ → Bool) → ℕ → ℕ → List ℕ → Option CommitFront
commit_by closes sum prev bytes = commit_within closes (suc (length bytes)) sum prev bytes

-- the tag of a word is a checksum's: in version 2.0 each of them closes a commit
abbrev pub is_checksum : ℕ → Bool
is_checksum word = main_kind word == 5

abbrev pub commit_at : ℕ → ℕ → List ℕ → Option CommitFront
commit_at sum prev bytes = commit_by is_checksum sum prev bytes

-- the longest front of commits, the word that the next tag is XORed with, and the bytes behind them
pub record Front : Type 0 where
  pub commits : List Commit
  pub last : ℕ
  pub rest : List ℕ

abbrev pub with_commit : Commit → Front → Front
with_commit c f = record { commits = c ∷ f.commits; last = f.last; rest = f.rest }

-- one commit more of a log, where `more` reads what is behind it
abbrev pub log_step : (ℕ → ℕ → List ℕ → Front) → ℕ → List ℕ → Option CommitFront → Front
log_step more prev bytes None = record { commits = []; last = prev; rest = bytes }
log_step more prev bytes (Some r) = with_commit r.commit (more 0xffffffff (next_word r.commit) r.rest)

-- at most so many commits
unfoldable pub log_within : (ℕ → Bool) → ℕ → ℕ → ℕ → List ℕ → Front
log_within closes zero sum prev bytes = record { commits = []; last = prev; rest = bytes }
log_within closes (suc n) sum prev bytes = log_step (log_within closes n) prev bytes (commit_by closes sum prev bytes)

-- the commits at the front of bytes, behind the word `prev`, where `sum` is the checksum of the lead
unfoldable pub log_by : (ℕ → Bool) → ℕ → ℕ → List ℕ → Front
log_by closes sum prev bytes = log_within closes (suc (length bytes)) sum prev bytes

abbrev pub log_from : ℕ → ℕ → List ℕ → Front
log_from sum prev bytes = log_by is_checksum sum prev bytes

-- the log of a block
unfoldable pub log_of : List ℕ → Front
log_of block = log_from (crc 0xffffffff (take 4 block)) 0xffffffff (drop 4 block)

-- one tag more of a log, where `more` reads what is behind it
abbrev pub tags_step : (ℕ → List ℕ → List Item) → Option TagFront → List Item
tags_step more None = []
tags_step more (Some f) =
    if main_kind f.item.word == 5 then more (word_after f.item.word) f.rest
    else f.item ∷ more f.item.word f.rest

-- at most so many tags
unfoldable pub tags_within : ℕ → ℕ → List ℕ → List Item
tags_within zero prev bytes = []
tags_within (suc n) prev bytes = tags_step (tags_within n) (tag_at prev bytes)

-- the tags at the front of bytes, behind the word `prev`, without those of checksums, whose values aren't looked at
unfoldable pub tags_at : ℕ → List ℕ → List Item
tags_at prev bytes = tags_within (suc (length bytes)) prev bytes
