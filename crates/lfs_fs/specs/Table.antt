-- The table of the blocks that a volume uses (own).
use Rattle.std.specs.Prelude.{◌≡◌, Bool, List, length}
use Rattle.lfs_fs.specs.Used.{Marks}
use Rattle.lfs_fs.specs.Uses.{uses}
use Rattle.lfs_fs.specs.Volume.{Volume}

-- one flag a block, which says how often the volume uses it
pub record IsTableOf (v : Volume) (used : List Bool) : Type 0 where
  pub len : length used ≡ v.count
  pub marks : Marks used (λ b. uses b v)
