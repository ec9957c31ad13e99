-- How many blocks rows need (own).
use Rattle.std.specs.Prelude.{ℕ, ◌/◌, List, [], min}
use Rattle.lfs_block.specs.Geometry.{IsGeometry}
use Rattle.lfs_fs.specs.declared.limits.Limits.{Limits}
use Rattle.lfs_fs.specs.Formatted.{empty_volume}
use Rattle.lfs_fs.specs.Volume.{Volume}
use Rattle.lfs_pack.specs.FirstBlocks.{UsesFirst}
use Rattle.lfs_pack.specs.Lead.{Lead}
use Rattle.lfs_pack.specs.Packed.{Packed, commands}

-- how many blocks of a size an image has at most
abbrev pub most_count : ℕ → ℕ
most_count size = min (67108864 / size) 65536

-- An image may have so many blocks. Where it has as many as it may, the volume that the commands of the rows lead to from a new one uses so
-- many of them, the first ones.
pub record IsLeastCount (size : ℕ) (limits : Limits) (rows : List Packed) (count : ℕ) : Type 0 where
  pub geometry : IsGeometry size count
  pub volume : Volume
  pub led : Lead (commands rows) (empty_volume size (most_count size) limits []) volume
  pub uses : UsesFirst volume count
