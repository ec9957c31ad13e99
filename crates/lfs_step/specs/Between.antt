-- An image between changes, and what is told of those around it (own).
use Rattle.std.specs.Prelude.{◌≡◌, ℕ, ◌+◌, ◌≤◌, List, ◌++◌, length, take, drop, reverse}
use Rattle.std.specs.List.{AllZip}
use Rattle.lfs_block.specs.Disk.{Disk, IsDisk}
use Rattle.lfs_block.specs.Patch.{ChangeSet}
use Rattle.lfs_fs.specs.Mounted.{MountedValue, IsMountOf}
use Rattle.lfs_history.specs.History.{GoesBack, GoesForward, future_of, history_at}
use Rattle.lfs_history.specs.Laws.{images}
use Rattle.lfs_json.specs.declared.form.Form.{Form}
use Rattle.lfs_step.specs.Log.{log_behind, history_text_from}

-- the image stands behind so many of the changes: they lead back from it, and the others on
pub record IsBetween (d : Disk) (patches : List ChangeSet) (at : ℕ) : Type 0 where
  pub disk : IsDisk d
  pub within : at ≤ length patches
  pub back : GoesBack (reverse (take at patches)) d
  pub on : GoesForward (drop at patches) d

-- all images of these changes
abbrev pub images_at : Disk → List ChangeSet → ℕ → List Disk
images_at d patches at = images (history_at d patches at)

-- those behind it
abbrev pub images_behind : Disk → List ChangeSet → ℕ → List Disk
images_behind d patches at = future_of (drop at patches) d

-- all images mount, and the lines of all changes were appended, of which so many are done
pub record AppendsChanges (form : Form) (d : Disk) (patches : List ChangeSet) (at done : ℕ) (old new : List ℕ) : Type 0 where
  pub mounts : List MountedValue
  pub are : AllZip IsMountOf (images_at d patches at) mounts
  pub text : new ≡ old ++ history_text_from form 1 done (images_at d patches at) mounts

-- all images behind one mount, and the lines of the changes from there on were appended; it mounts to the first value
pub record AppendsLater (form : Form) (d : Disk) (m : MountedValue) (patches : List ChangeSet) (at done : ℕ) (old new : List ℕ) : Type 0 where
  pub mounts : List MountedValue
  pub are : AllZip IsMountOf (images_behind d patches at) mounts
  pub text : new ≡ old ++ log_behind form (at + 1) done d m (images_behind d patches at) mounts
