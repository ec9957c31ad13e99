-- A volume: the directories of an image in the order of its thread (littlefs disk version 2.0).
use Rattle.std.specs.Prelude.{ℕ, List}
use Rattle.lfs_meta.specs.Attribute.{Attributes}
use Rattle.lfs_fs.specs.declared.limits.Limits.{Limits}
use Rattle.lfs_fs.specs.Directory.{Directory}

-- The superblock entry is `limits` and `attributes`, which are the root's; it is no entry of the first part.
pub record Volume : Type 0 where
  pub size : ℕ
  pub count : ℕ
  pub limits : Limits
  pub attributes : Attributes
  pub directories : List Directory
