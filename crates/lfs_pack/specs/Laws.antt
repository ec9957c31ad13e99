-- Laws of packing (own).
use Rattle.std.specs.Prelude.{◌≡◌, ◌<◌, ◌≤◌, ℕ, List, []}
use Rattle.lfs_block.specs.Geometry.{IsGeometry}
use Rattle.lfs_fs.specs.declared.limits.Limits.{Limits}
use Rattle.lfs_fs.specs.Formatted.{empty_volume}
use Rattle.lfs_fs.specs.Path.{Path}
use Rattle.lfs_fs.specs.Volume.{Volume}
use Rattle.lfs_fs.specs.Tree.{tree}
use Rattle.lfs_command.specs.declared.refusal.Refusal.{Refusal}
use Rattle.lfs_command.specs.declared.refusal.Refusal.TheVariants.{Memory}
use Rattle.lfs_pack.specs.Least.{IsLeastCount}
use Rattle.lfs_pack.specs.Packed.{Packed, ArePackable, commands, packed_at}
use Rattle.lfs_pack.specs.Packing.{IsPacked, RefusesPack}
use Rattle.lfs_pack.specs.Lead.{Lead}

-- the commands of rows that can be packed lead from a new volume to one whose tree is the map of the rows
abbrev pub LedToTheirMap : Type 0
LedToTheirMap = (size count : ℕ) (limits : Limits) (rows : List Packed) (v : Volume) → ArePackable rows
    → Lead (commands rows) (empty_volume size count limits []) v → (p : Path) → tree v p ≡ packed_at rows p

-- Rows are packed into m blocks, but for want of memory, where these are n or more, and aren't where they are fewer.
pub record IsLeastOf (size : ℕ) (limits : Limits) (rows : List Packed) (n m : ℕ) : Type 0 where
  pub packs : n ≤ m → (r : Refusal) → RefusesPack size m limits rows r → r ≡ Memory
  pub none : m < n → (bytes : List ℕ) → IsPacked size m limits rows bytes → ⊥

-- so it is of each number of blocks that an image may have, where n is the least count of rows that can be packed
abbrev pub LeastCountsAreLeast : Type 0
LeastCountsAreLeast = (size n m : ℕ) (limits : Limits) (rows : List Packed) → ArePackable rows → IsLeastCount size limits rows n
    → IsGeometry size m → IsLeastOf size limits rows n m
