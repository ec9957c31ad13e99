-- Directories in front (own).
use Rattle.std.specs.Prelude.{ℕ, ◌≡◌, ◌≤◌, ◌+◌, Some, count_by, drop}
use Rattle.lfs_meta.specs.Body.{Pair}
use Rattle.lfs_meta.specs.Name.{Name}
use Rattle.lfs_fs.specs.Directory.{begins_at}
use Rattle.lfs_fs.specs.Path.{Path}
use Rattle.lfs_fs.specs.Volume.{Volume}
use Rattle.lfs_command.specs.Parent.{parent_of}

-- So many are one more than those among which the directory of a path's last name is, if there is one.
pub record IsFrontOf (o : Volume) (p : Path) (n : ℕ) : Type 0 where
  pub before : ℕ
  pub one : 1 ≤ before
  pub is : n ≡ before + 1
  pub none : (k : Pair) (m : Name) → parent_of o p ≡ Some (k, m) → count_by (begins_at k) (drop before o.directories) ≡ 0
