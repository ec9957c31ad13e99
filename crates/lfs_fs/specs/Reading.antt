-- How the parts and files of an image are read (own). Two images on which this agrees are not told apart.
use Rattle.std.specs.Prelude.{ℕ, List, Option}
use Rattle.lfs_block.specs.Disk.{Disk}
use Rattle.lfs_meta.specs.Body.{Pair}
use Rattle.lfs_meta.specs.Part.{StoredPart}
use Rattle.lfs_meta.specs.LiveBlock.{stored_part_of}
use Rattle.lfs_file.specs.SkipList.{chain_of}
use Rattle.lfs_file.specs.Content.{content}

-- `part` is what a pair holds where all its entries are complete, `chain` the blocks of a head and a size where there are
-- some, `content` what so many bytes of blocks are
pub record Reading : Type 0 where
  pub size : ℕ
  pub count : ℕ
  pub part : Pair → Option StoredPart
  pub chain : ℕ → ℕ → Option (List ℕ)
  pub content : ℕ → List ℕ → List ℕ

-- how a disk is read
abbrev pub reading_of : Disk → Reading
reading_of d = record { size = d.size; count = d.count; part = stored_part_of d; chain = chain_of d; content = content d }
