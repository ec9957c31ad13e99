-- A commit: tags with their data, closed by a tag that holds their checksum (SPEC.md, "Metadata pairs" and "0x5xx CRC").
use Rattle.std.specs.Prelude.{◌≡◌, ◌≢◌, ℕ, ◌+◌, ◌*◌, ◌/◌, ◌%◌, ◌^◌, ◌<◌, List, [], ◌∷◌, ◌++◌, length, bit_xor}
use Rattle.std.specs.List.{AllByRecursion}
use Rattle.std.specs.Int.{w32, to_be_bytes, to_le_bytes}
use Rattle.lfs_block.specs.Checksum.{crc}
use Rattle.lfs_tag.specs.Tag.{main_kind, len_of, data_len}

-- a tag's word with its data
pub record Item : Type 0 where
  pub word : ℕ
  pub content : List ℕ

-- the tags of a commit, the word of the checksum's tag that closes it, and the padding behind the checksum
pub record Commit : Type 0 where
  pub tags : List Item
  pub closing : ℕ
  pub padding : List ℕ

-- a valid tag that isn't a checksum's, with as many bytes of data as it says
pub record IsItem (t : Item) : Type 0 where
  pub valid : t.word < 2 ^ 31
  pub kind : main_kind t.word ≢ 5
  pub content : length t.content ≡ data_len t.word

pub record IsCommit (c : Commit) : Type 0 where
  pub tags : AllByRecursion IsItem c.tags
  pub valid : c.closing < 2 ^ 31
  pub kind : main_kind c.closing ≡ 5
  -- own: SPEC.md leaves open what a checksum's tag that is marked deleted or too short means
  pub not_deleted : len_of c.closing < 0x3ff
  pub padding : 4 + length c.padding ≡ len_of c.closing

-- tags as they are stored: each word XORed with the one before it, high byte first, then its data
unfoldable pub tags_bytes : ℕ → List Item → List ℕ
tags_bytes prev [] = []
tags_bytes prev (t ∷ ts) = to_be_bytes w32 (bit_xor t.word prev) ++ t.content ++ tags_bytes t.word ts

-- the word of the last tag, or the one before the tags
unfoldable pub last_word : ℕ → List Item → ℕ
last_word prev [] = prev
last_word prev (t ∷ ts) = last_word t.word ts

-- what the checksum covers beside the lead: the tags and the word of the checksum's tag
abbrev pub covered_bytes : ℕ → Commit → List ℕ
covered_bytes prev c = tags_bytes prev c.tags ++ to_be_bytes w32 (bit_xor c.closing (last_word prev c.tags))

-- a commit as it is stored behind the word `prev`. The checksum also covers `lead`, the bytes between the commit
-- before it and the first tag: the revision in a block's first commit, else none
abbrev pub commit_bytes : List ℕ → ℕ → Commit → List ℕ
commit_bytes lead prev c = covered_bytes prev c ++ to_le_bytes w32 (crc 0xffffffff (lead ++ covered_bytes prev c)) ++ c.padding

-- the word that the next tag is XORed with: the lowest bit of the chunk goes into the top bit
abbrev pub word_after : ℕ → ℕ
word_after closing = closing + 2 ^ 31 * (closing / 2 ^ 20 % 2)

abbrev pub next_word : Commit → ℕ
next_word c = word_after c.closing
