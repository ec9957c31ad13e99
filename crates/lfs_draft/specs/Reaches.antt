-- How far a path leads (own).
use Rattle.std.specs.Prelude.{◌≡◌, ◌≤◌, ◌+◌, ◌⊎◌, ℕ, true, None, is_some, length, take}
use Rattle.lfs_fs.specs.Path.{Path}
use Rattle.lfs_fs.specs.Tree.{tree}
use Rattle.lfs_fs.specs.Volume.{Volume}

-- So many names lead to something. They are all of them, or nothing is there behind one more.
pub record Reaches (v : Volume) (names : Path) (n : ℕ) : Type 0 where
  pub within : n ≤ length names
  pub there : is_some (tree v (take n names)) ≡ true
  pub ends : (n ≡ length names) ⊎ (tree v (take (n + 1) names) ≡ None)
