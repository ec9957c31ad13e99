-- What a reader sees of a block's log, and one who writes behind it (SPEC.md, "Metadata pairs").
use Rattle.std.specs.Prelude.{ℕ, ◌-◌, ◌==◌, Bool, List, length}
use Rattle.std.specs.List.{list_all}
use Rattle.lfs_tag.specs.Commit.{Item}
use Rattle.lfs_tag.specs.Log.{final_word, log_tags}
use Rattle.lfs_tag.specs.Reading.{log_of}

-- whether each byte is 0xff
abbrev pub is_erased : List ℕ → Bool
is_erased bytes = list_all (λ b. b == 255) bytes

-- where the last commit ends in the block, the number of commits, the word that the next tag is XORed with, whether all
-- behind the end is erased, and the tags of all commits, in order, without those of checksums
pub record LogSeen : Type 0 where
  pub end : ℕ
  pub commits : ℕ
  pub last : ℕ
  pub erased : Bool
  pub tags : List Item

-- the log of a block
abbrev pub log_seen : List ℕ → LogSeen
log_seen block = record {
  end = length block - length (log_of block).rest;
  commits = length (log_of block).commits;
  last = final_word 0xffffffff (log_of block).commits;
  erased = is_erased (log_of block).rest;
  tags = log_tags (log_of block).commits;
}
