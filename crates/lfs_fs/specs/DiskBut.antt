-- An image of which some blocks are other ones (own).
use Rattle.std.specs.Prelude.{ℕ, ◌≡◌, List}
use Rattle.lfs_block.specs.Disk.{Disk, block_of}
use Rattle.lfs_block.specs.PatchLaws.{IsDiskAs}
use Rattle.lfs_fs.specs.Uses.{times}

-- disk e is d but for these blocks
pub record IsDiskBut (blocks : List ℕ) (d e : Disk) : Type 0 where
  pub disk : IsDiskAs d e
  pub others : (n : ℕ) → times n blocks ≡ 0 → block_of e n ≡ block_of d n
