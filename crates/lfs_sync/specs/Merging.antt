-- Rows of an image and of a folder, merged (own).
use Rattle.std.specs.Prelude.{◌≡◌, ℕ, ◌+◌, ◌&&◌, Bool, not, List, [], ◌∷◌, ◌++◌, drop, if◌then◌else◌, length, map}
use Rattle.std.specs.List.{filter}
use Rattle.lfs_block.specs.Disk.{Disk}
use Rattle.lfs_fs.specs.Path.{Path}
use Rattle.lfs_command.specs.Command.{Asked, Command}
use Rattle.lfs_sync.specs.Planned.{in_texts, plan_asked}
use Rattle.lfs_sync.specs.Shown.{Shown, ShownRise}
use Rattle.lfs_sync.specs.Sides.{held_all, wanted_all}
use Rattle.lfs_sync.specs.Synced.{goes, is_dir, is_new_directory, is_new_file, made, making_row, removing, same_held, same_kind}
use Rattle.lfs_sync.specs.declared.held_row.HeldRow.{HeldRow}
use Rattle.lfs_sync.specs.declared.merging.Merging.{Merging}
use Rattle.lfs_sync.specs.declared.planned.Planned.{Planned}
use Rattle.lfs_sync.specs.declared.sync_row.SyncRow.{SyncRow}
use Rattle.lfs_sync.specs.declared.wanted_row.WantedRow.{WantedRow}

-- what is removed of some rows beside others, in the order of paths
abbrev pub removed_of : Path → List Shown → List Shown → List Asked
removed_of at held wanted = in_texts (map (removing at) (filter (goes wanted) held))

-- the directories that are made, and the files that are put
abbrev pub directories_of : Path → List Shown → List Shown → List Asked
directories_of at held wanted = in_texts (made (is_new_directory held) at wanted)

abbrev pub files_put : Path → List Shown → List Shown → List Asked
files_put at held wanted = in_texts (made (is_new_file held) at wanted)

-- rows are merged, of which these are left: what is planned so far, and of them, is what is planned of all
pub record IsUnderWay (at : Path) (rows : List SyncRow) (m : Merging) (left others held wanted : List Shown) : Type 0 where
  pub gone : plan_asked rows m.removed.items ++ removed_of at left others ≡ removed_of at held wanted
  pub made : plan_asked rows m.directories.items ++ directories_of at left others ≡ directories_of at held wanted
  pub put : plan_asked rows m.files.items ++ files_put at left others ≡ files_put at held wanted
  pub rise : ShownRise left
  pub rises : ShownRise others

-- all of them are
pub record IsMerged (at : Path) (rows : List SyncRow) (m : Merging) (held wanted : List Shown) : Type 0 where
  pub removed : plan_asked rows m.removed.items ≡ removed_of at held wanted
  pub directories : plan_asked rows m.directories.items ≡ directories_of at held wanted
  pub files : plan_asked rows m.files.items ≡ files_put at held wanted

-- ---- steps

-- commands are planned behind others
abbrev pub PlansBehind : List SyncRow → List Planned → List Planned → List Command → Type 0
PlansBehind rows old new commands = plan_asked rows new ≡ plan_asked rows old ++ in_texts commands

-- one command, if it is wanted
abbrev pub if_so : Bool → Command → List Command
if_so test command = if test then command ∷ [] else []

-- the rows at hand are the same
pub record KeepsPlaces (old new : Merging) : Type 0 where
  pub held : new.held ≡ old.held
  pub wanted : new.wanted ≡ old.wanted

-- commands are planned of each kind
pub record PlansEach (rows : List SyncRow) (old new : Merging) (gone made put : List Command) : Type 0 where
  pub removed : PlansBehind rows old.removed.items new.removed.items gone
  pub directories : PlansBehind rows old.directories.items new.directories.items made
  pub files : PlansBehind rows old.files.items new.files.items put

-- a row of the image is removed, if it goes
abbrev pub PlansHeld : Path → List SyncRow → Merging → Merging → Shown → Bool → Type 0
PlansHeld at rows old new r goes = PlansEach rows old new (if_so goes (removing at r)) [] []

-- a row of the folder is made, if it comes
abbrev pub PlansWanted : Path → List SyncRow → Merging → Merging → Shown → Bool → Type 0
PlansWanted at rows old new r comes =
    PlansEach rows old new [] (if_so (is_dir r && comes) (making_row at r)) (if_so (not (is_dir r) && comes) (making_row at r))

-- what differs where both have a row is removed and made
abbrev pub PlansBoth : Path → List SyncRow → Merging → Merging → Shown → Shown → Type 0
PlansBoth at rows old new r other =
    PlansEach rows old new (if_so (not (same_kind other.node r.node)) (removing at r))
    (if_so (is_dir other && not (same_held r.node other.node)) (making_row at other))
    (if_so (not (is_dir other) && not (same_held r.node other.node)) (making_row at other))

-- ---- the rows that are left

abbrev pub held_left : Merging → List HeldRow → List HeldRow
held_left m held = drop m.held held

abbrev pub wanted_left : Merging → List WantedRow → List WantedRow
wanted_left m wanted = drop m.wanted wanted

-- how many they are
abbrev pub left : Merging → List HeldRow → List WantedRow → ℕ
left m held wanted = length (held_left m held) + length (wanted_left m wanted)

-- what is planned so far, and of these, is what is planned of all
abbrev pub MergesTo : Disk → Path → List SyncRow → Merging → List HeldRow → List WantedRow → Type 0
MergesTo d at rows m held wanted =
    IsUnderWay at rows m (held_all d (held_left m held)) (wanted_all rows (wanted_left m wanted)) (held_all d held) (wanted_all rows wanted)

-- the rows at hand are left behind
abbrev pub MergingGoesOn : Disk → Path → List SyncRow → Merging → Merging → List HeldRow → List WantedRow → Type 0
MergingGoesOn d at rows old new held wanted = MergesTo d at rows old held wanted → MergesTo d at rows new held wanted
