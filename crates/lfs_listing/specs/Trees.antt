-- What a difference says of two trees (own).
use Rattle.std.specs.Prelude.{◌≡◌, ◌↔◌, [], Option}
use Rattle.lfs_block.specs.Disk.{Disk, IsDisk}
use Rattle.lfs_fs.specs.Mounted.{MountedValue, IsMountOf}
use Rattle.lfs_fs.specs.Mounts.{Mounts}
use Rattle.lfs_fs.specs.Path.{Path}
use Rattle.lfs_fs.specs.Tree.{Node}
use Rattle.lfs_json.specs.declared.form.Form.{Form}
use Rattle.lfs_listing.specs.Difference.{difference}

-- the law: nothing differs between two images if and only if their trees have the same at every path
abbrev pub DifferencesAreEmptyOfEqualTrees : Type 0
DifferencesAreEmptyOfEqualTrees = (form : Form) (d e : Disk) (m n : MountedValue) (t u : Path → Option Node) → IsDisk d → IsDisk e → IsMountOf d m
    → IsMountOf e n → Mounts d t → Mounts e u → (difference form d m.rows e n.rows ≡ []) ↔ ((p : Path) → t p ≡ u p)
