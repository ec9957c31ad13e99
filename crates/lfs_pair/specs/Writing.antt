-- What is written into a block (own, within what SPEC.md, "Metadata pairs", leaves open).
use Rattle.std.specs.Prelude.{◌≡◌, ℕ, ◌+◌, ◌%◌, ◌^◌, ◌++◌, ◌==◌, List, length, drop, replicate, Option, Some, option_and_then, if◌then◌else◌}
use Rattle.std.specs.List.{list_all}
use Rattle.std.specs.Int.{w32, to_le_bytes}
use Rattle.lfs_block.specs.Disk.{Disk, block_of, put, put_at}
use Rattle.lfs_tag.specs.Commit.{Item, commit_bytes}
use Rattle.lfs_tag.specs.Writing.{commit_of, lead_at}
use Rattle.lfs_meta.specs.Body.{Pair}
use Rattle.lfs_meta.specs.LiveBlock.{revision, committed, live_block, live_tags, stored_part_of}
use Rattle.lfs_meta.specs.declared.live_block.LiveBlock.{LiveBlock}
use Rattle.lfs_meta.specs.declared.live_block.LiveBlock.TheVariants.{First, Second, Neither}
use Rattle.lfs_meta.specs.declared.tail.Tail.{Tail}
use Rattle.lfs_meta.specs.declared.tail.Tail.TheVariants.{End, Soft, Hard}
use Rattle.lfs_meta.specs.Entry.{StoredEntry}
use Rattle.lfs_meta.specs.Part.{StoredPart}
use Rattle.lfs_meta.specs.Replay.{replay}
use Rattle.lfs_meta.specs.Weighing.{weights}
use Rattle.lfs_pair.specs.Spelling.{part_tags}
use Rattle.lfs_meta.specs.Complete.{complete_part}

-- a block with this revision, and behind it as it was
abbrev pub revised : ℕ → List ℕ → List ℕ
revised number block = to_le_bytes w32 number ++ drop 4 block

-- a block with this revision and one commit of tags, and behind them as it was
abbrev pub log_written : ℕ → List Item → List ℕ → List ℕ
log_written number tags block =
    put_at 4 (commit_bytes (lead_at 4 (revised number block)) 0xffffffff (commit_of 4 tags)) (revised number block)

-- the part that two blocks hold, all of whose entries are complete
abbrev pub part_in : List ℕ → List ℕ → Option StoredPart
part_in first second = option_and_then complete_part (option_and_then replay (live_tags first second))

-- the number of a pair's block that isn't live, where the live one is this; the second one's where neither is
abbrev pub other_than : LiveBlock → Pair → ℕ
other_than (First log) pair = pair.1
other_than (Second log) pair = pair.0
other_than Neither pair = pair.1

-- the revision of the live block, where it is this; the first one's where neither is
abbrev pub revision_by : LiveBlock → List ℕ → List ℕ → ℕ
revision_by (First log) first second = revision first
revision_by (Second log) first second = revision second
revision_by Neither first second = revision first

-- the block of a pair that isn't live
abbrev pub other_number : Disk → Pair → ℕ
other_number d pair = other_than (live_block (block_of d pair.0) (block_of d pair.1)) pair

-- the revision of a pair's live block
abbrev pub live_revision : Disk → Pair → ℕ
live_revision d pair = revision_by (live_block (block_of d pair.0) (block_of d pair.1)) (block_of d pair.0) (block_of d pair.1)

-- a part of these entries, with a tail and a delta
abbrev pub stored_part : List StoredEntry → Tail → List ℕ → StoredPart
stored_part entries tail delta = record { entries = entries; tail = tail; delta = delta }

-- what a tail takes of a block; the end of a thread takes nothing
abbrev pub tail_weight : Tail → ℕ
tail_weight End = 0
tail_weight (Soft first second) = 12
tail_weight (Hard first second) = 12

-- what a delta takes; one of zeros takes nothing
abbrev pub delta_weight : List ℕ → ℕ
delta_weight delta = if list_all (λ b. b == 0) delta then 0 else 16

-- what a part takes of a block that holds nothing else: the revision and the checksum, and what it has
abbrev pub part_weight : StoredPart → ℕ
part_weight p = 12 + weights p.entries + tail_weight p.tail + delta_weight p.delta

-- a block of this size with a revision and one commit of tags, all else 0xff, which is read back so
pub record IsWritten (size number : ℕ) (tags : List Item) (block : List ℕ) : Type 0 where
  pub bytes : block ≡ log_written number tags (replicate size 0xff)
  pub len : length block ≡ size
  pub numbered : revision block ≡ number
  pub held : committed block ≡ Some tags

-- a block of this size with a revision and a part, which a pair holds beside an erased block
pub record IsPartBlock (size number : ℕ) (p : StoredPart) (block : List ℕ) : Type 0 where
  pub bytes : block ≡ log_written number (part_tags p) (replicate size 0xff)
  pub len : length block ≡ size
  pub before_erased : part_in block (replicate size 0xff) ≡ Some p
  pub behind_erased : part_in (replicate size 0xff) block ≡ Some p

-- the first block of a new pair has revision 1
abbrev pub IsFirstBlock : ℕ → StoredPart → List ℕ → Type 0
IsFirstBlock size p block = IsPartBlock size 1 p block

-- a pair's block that isn't live, rewritten with a part: the live one's revision and one more; in the image with that
-- block the pair holds the part
pub record IsRewritten (d : Disk) (pair : Pair) (p : StoredPart) (n : ℕ) (block : List ℕ) : Type 0 where
  pub number : n ≡ other_number d pair
  pub bytes : block ≡ log_written ((live_revision d pair + 1) % 2 ^ 32) (part_tags p) (replicate d.size 0xff)
  pub len : length block ≡ d.size
  pub reads_back : stored_part_of (put n block d) pair ≡ Some p
