-- A commit appended to a pair's live block, and a pair carried to another part (own, within what SPEC.md, "Metadata pairs", leaves open).
use Rattle.std.specs.Prelude.{◌≡◌, ℕ, ◌+◌, ◌%◌, ◌^◌, ◌&&◌, nat_le, Bool, true, false, List, ◌++◌, length, replicate, Option, Some, None, option_map, option_and_then}
use Rattle.std.specs.Prelude.{if◌then◌else◌}
use Rattle.lfs_block.specs.Disk.{Disk, block_of, put, put_at}
use Rattle.lfs_tag.specs.Commit.{Item, commit_bytes}
use Rattle.lfs_tag.specs.LogSeen.{LogSeen, log_seen}
use Rattle.lfs_tag.specs.Writing.{commit_of, committed_end, lead_at}
use Rattle.lfs_meta.specs.Body.{Pair}
use Rattle.lfs_pair.specs.Difference.{Forced, part_between}
use Rattle.lfs_meta.specs.LiveBlock.{live_block, live_log, live_tags, revision, stored_part_of, tags_of}
use Rattle.lfs_meta.specs.declared.live_block.LiveBlock.{LiveBlock}
use Rattle.lfs_meta.specs.declared.live_block.LiveBlock.TheVariants.{First, Second, Neither}
use Rattle.lfs_meta.specs.Part.{StoredPart}
use Rattle.lfs_pair.specs.Spelling.{part_tags}
use Rattle.lfs_pair.specs.Writing.{live_revision, log_written, other_number}

-- ---- one block

-- a block with a commit of tags behind its log, and else as it was
abbrev pub appended : LogSeen → List Item → List ℕ → List ℕ
appended log tags block = put_at log.end (commit_bytes (lead_at log.end block) log.last (commit_of log.end tags)) block

-- whether all behind a log is erased, and a commit of tags fits there in a block of this size
abbrev pub has_room : ℕ → LogSeen → List Item → Bool
has_room size log tags = log.erased && nat_le (committed_end log.end tags) size

-- a block with one more commit of tags, which is read back so
pub record IsLonger (more : List Item) (block new : List ℕ) : Type 0 where
  pub bytes : new ≡ appended (log_seen block) more block
  pub len : length new ≡ length block
  pub numbered : revision new ≡ revision block
  pub commits : (log_seen new).commits ≡ (log_seen block).commits + 1
  pub tags : (log_seen new).tags ≡ (log_seen block).tags ++ more

-- ---- a pair

-- the live block of a pair, with its log
abbrev pub live_of : Disk → Pair → LiveBlock
live_of d pair = live_block (block_of d pair.0) (block_of d pair.1)

-- the number of a pair's live block; the first one's where neither is
abbrev pub number_by : LiveBlock → Pair → ℕ
number_by (First log) pair = pair.0
number_by (Second log) pair = pair.1
number_by Neither pair = pair.0

-- the live block of two; the first one where neither is
abbrev pub block_by : LiveBlock → List ℕ → List ℕ → List ℕ
block_by (First log) first second = first
block_by (Second log) first second = second
block_by Neither first second = first

abbrev pub live_number : Disk → Pair → ℕ
live_number d pair = number_by (live_of d pair) pair

-- two blocks with another in the place of the live one, the first one's where neither is
abbrev pub first_with : LiveBlock → List ℕ → List ℕ → List ℕ
first_with (First log) new first = new
first_with (Second log) new first = first
first_with Neither new first = new

abbrev pub second_with : LiveBlock → List ℕ → List ℕ → List ℕ
second_with (First log) new second = second
second_with (Second log) new second = new
second_with Neither new second = second

-- whether there is a log with room for a commit of tags
abbrev pub some_room : ℕ → Option LogSeen → List Item → Bool
some_room size None tags = false
some_room size (Some log) tags = has_room size log tags

-- whether a commit of tags can be appended to a pair
abbrev pub can_append : Disk → Pair → List Item → Bool
can_append d pair tags = some_room d.size (live_log (live_of d pair)) tags

-- a block with a commit of tags behind this log, if there is one
abbrev pub longer : Option LogSeen → List Item → List ℕ → List ℕ
longer None tags block = block
longer (Some log) tags block = appended log tags block

-- a block with a number, and one more commit of tags
pub record IsNumberedLonger (more : List Item) (number : ℕ) (block : List ℕ) (n : ℕ) (new : List ℕ) : Type 0 where
  pub room : has_room (length block) (log_seen block) more ≡ true
  pub number_is : n ≡ number
  pub longer_is : IsLonger more block new

-- the same of the live block of two: it is the live one in the place of the old one
pub record IsLiveLonger (more : List Item) (pair : Pair) (first second : List ℕ) (n : ℕ) (new : List ℕ) : Type 0 where
  pub room : some_room (length first) (live_log (live_block first second)) more ≡ true
  pub number : n ≡ number_by (live_block first second) pair
  pub bytes : new ≡ longer (live_log (live_block first second)) more (block_by (live_block first second) first second)
  pub len : length new ≡ length first
  pub held : live_tags (first_with (live_block first second) new first) (second_with (live_block first second) new second)
      ≡ option_map (λ old. old ++ more) (live_tags first second)

-- the live block of a pair with a commit of tags behind its log
abbrev pub appended_block : Disk → Pair → List Item → List ℕ
appended_block d pair tags =
    longer (live_log (live_of d pair)) tags (block_by (live_of d pair) (block_of d pair.0) (block_of d pair.1))

-- a pair's live block with one more commit of tags: in the image with that block the pair's tags are the old ones and these
pub record IsAppended (d : Disk) (pair : Pair) (tags : List Item) (n : ℕ) (block : List ℕ) : Type 0 where
  pub room : can_append d pair tags ≡ true
  pub number : n ≡ live_number d pair
  pub bytes : block ≡ appended_block d pair tags
  pub len : length block ≡ d.size
  pub held : tags_of (put n block d) pair ≡ option_map (λ old. old ++ tags) (tags_of d pair)

-- ---- a pair carried to another part

-- the tags that carry a pair from what it holds to another part: none where it holds no part, or one with more entries than tags
-- have ids for
abbrev pub change_tags : Disk → Pair → Forced → StoredPart → Option (List Item)
change_tags d pair forced q =
    option_and_then (λ p. if nat_le (length p.entries) 1023 then Some (part_between forced p q) else None) (stored_part_of d pair)

-- the same, where they can be appended
abbrev pub appended_tags : Disk → Pair → Forced → StoredPart → Option (List Item)
appended_tags d pair forced q =
    option_and_then (λ tags. if can_append d pair tags then Some tags else None) (change_tags d pair forced q)

-- a pair's block that isn't live, with the live one's revision and one more, and a part
abbrev pub rewritten_block : Disk → Pair → StoredPart → List ℕ
rewritten_block d pair q = log_written ((live_revision d pair + 1) % 2 ^ 32) (part_tags q) (replicate d.size 0xff)

-- the block that carries a pair to a part, and its number: the live one where these tags are appended, else the other one
abbrev pub number_with : Disk → Pair → Option (List Item) → ℕ
number_with d pair None = other_number d pair
number_with d pair (Some tags) = live_number d pair

abbrev pub block_with : Disk → Pair → StoredPart → Option (List Item) → List ℕ
block_with d pair q None = rewritten_block d pair q
block_with d pair q (Some tags) = appended_block d pair tags

abbrev pub changed_number : Disk → Pair → Forced → StoredPart → ℕ
changed_number d pair forced q = number_with d pair (appended_tags d pair forced q)

abbrev pub changed_block : Disk → Pair → Forced → StoredPart → List ℕ
changed_block d pair forced q = block_with d pair q (appended_tags d pair forced q)

-- A pair carried to a part by a commit appended.
pub record IsPartAppended (d : Disk) (pair : Pair) (forced : Forced) (q : StoredPart) (n : ℕ) (block : List ℕ) : Type 0 where
  pub tags : List Item
  pub tags_are : appended_tags d pair forced q ≡ Some tags
  pub appended_is : IsAppended d pair tags n block
  pub reads_back : stored_part_of (put n block d) pair ≡ Some q

-- A pair carried to a part, by a commit appended where there is room for it, else by its other block rewritten: in the image with that
-- block the pair holds the part.
pub record IsPairRewritten (d : Disk) (pair : Pair) (forced : Forced) (q : StoredPart) (n : ℕ) (block : List ℕ) : Type 0 where
  pub number : n ≡ changed_number d pair forced q
  pub bytes : block ≡ changed_block d pair forced q
  pub len : length block ≡ d.size
  pub reads_back : stored_part_of (put n block d) pair ≡ Some q
