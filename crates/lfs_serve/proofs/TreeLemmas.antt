-- What is read of a host's folder for an image that is made like it.
use Rattle.std.proofs.Common.{ℕ, List, Option, map}
use Rattle.lfs_extract.specs.declared.folder_row.FolderRow.{FolderRow}
use Rattle.lfs_extract.specs.FolderRows.{AreFolderRows, AreSpelled, IsFolder, PathRow}
use Rattle.lfs_fs.specs.Limits.{most_file}
use Rattle.lfs_host.specs.HostTree.{HostTree}
use Rattle.lfs_sync.specs.Shown.{wanted_of}
use Rattle.lfs_sync.specs.SyncRows.{AreRowsOfFolder}
use Rattle.lfs_sync.specs.declared.sync_row.SyncRow.{SyncRow}
use Rattle.lfs_serve.specs.Trees.{SyncsFolder}

-- rows that say what a folder's rows do
pub folded_by : (tree : Option HostTree) (dir : List ℕ) (folder : List FolderRow) (rows : List SyncRow) → IsFolder most_file tree dir folder
    → ((shown : List PathRow) → AreSpelled folder shown → AreFolderRows shown → AreRowsOfFolder rows (map wanted_of shown)) → SyncsFolder tree dir rows
folded_by tree dir folder rows is say = record {
  shown = is.shown;
  ordered = is.ordered;
  all = is.all;
  rows_are = say is.shown is.spelled is.ordered;
}
