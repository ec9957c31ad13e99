-- Rows of a folder, as the code has them (own).
use Rattle.std.specs.Prelude.{◌≡◌, ℕ, List, Option, slice_get}
use Rattle.std.specs.List.{AllZip}
use Rattle.std.specs.Option.{option_and_then, option_map}
use Rattle.lfs_extract.specs.declared.folder_row.FolderRow.{FolderRow}
use Rattle.lfs_fs.specs.Path.{IsPathText}
use Rattle.lfs_sync.specs.Shown.{Shown, ShownRise, wanted_node}
use Rattle.lfs_sync.specs.declared.sync_row.SyncRow.{SyncRow}

-- a file's contents
abbrev pub folder_row_bytes : SyncRow → Option (List ℕ)
folder_row_bytes row = option_map (λ b. b.now) row.bytes

-- those of the row at a place, if there is one
abbrev pub bytes_at : List SyncRow → ℕ → Option (List ℕ)
bytes_at rows place = option_and_then folder_row_bytes (slice_get rows place)

-- a row's text spells the path, and it has these bytes
pub record IsFolderRow (row : SyncRow) (r : Shown) : Type 0 where
  pub path : IsPathText row.path.now r.path
  pub node : r.node ≡ wanted_node (folder_row_bytes row)

-- the rows say what a folder has, in the order of paths
pub record AreRowsOfFolder (rows : List SyncRow) (wanted : List Shown) : Type 0 where
  pub each : AllZip IsFolderRow rows wanted
  pub rise : ShownRise wanted

-- the rows say what some folder has
abbrev pub SayFolder : List SyncRow → Type 0
SayFolder rows = (wanted : List Shown) × AreRowsOfFolder rows wanted

-- ---- a host's folder

-- a row's text and bytes
abbrev pub sync_text : SyncRow → List ℕ × Option (List ℕ)
sync_text row = (row.path.now, folder_row_bytes row)

-- those of a row of a host's folder
abbrev pub folder_text : FolderRow → List ℕ × Option (List ℕ)
folder_text row = (row.path.items, option_map (λ b. b.items) row.bytes)
