-- What is read of a host's folder, and what is packed of it (own).
use Rattle.std.specs.Prelude.{◌≡◌, ℕ, List, [], Option, IfSome, map}
use Rattle.std.specs.Option.{option_map}
use Rattle.lfs_command.specs.declared.refusal.Refusal.TheVariants as refusal
use Rattle.lfs_request.specs.declared.fault.Fault.{Fault}
use Rattle.lfs_request.specs.declared.fault.Fault.TheVariants as fault
use Rattle.lfs_extract.specs.declared.folder_row.FolderRow.{FolderRow}
use Rattle.lfs_extract.specs.declared.folder_fault.FolderFault.{FolderFault}
use Rattle.lfs_extract.specs.declared.folder_fault.FolderFault.TheVariants.{Memory, HostEntry, HostName, CannotRead}
use Rattle.lfs_extract.specs.FolderRows.{AreAllBelow, AreFolderRows, BlamesHost, PathRow, RefusesFolderRows}
use Rattle.lfs_fs.specs.Limits.{most_file}
use Rattle.lfs_host.specs.HostTree.{HostTree}
use Rattle.lfs_host.specs.Scene.{Scene}
use Rattle.lfs_pack.specs.declared.pack_row.PackRow.{PackRow}
use Rattle.lfs_pack.specs.Packed.{AreRowsOf, Packed}
use Rattle.lfs_pack.specs.RowText.{RowText}

-- ---- what is read

-- what a fault of reading a folder is told as
abbrev pub fault_of_folder : FolderFault → Fault
fault_of_folder Memory = fault.Refused refusal.Memory
fault_of_folder HostEntry = fault.HostEntry
fault_of_folder HostName = fault.HostName
fault_of_folder CannotRead = fault.CannotRead

-- why a folder isn't read, of what was known of the host before and what is known of it then
abbrev pub ReadsNoFolder : Option HostTree → List ℕ → Scene → Fault → Type 0
ReadsNoFolder tree dir new why =
    (cause : FolderFault) × (why ≡ fault_of_folder cause) × RefusesFolderRows tree dir cause × BlamesHost tree dir new cause

-- ---- what is packed

-- what is below a folder at a path, with this bound for contents that stand in an entry, and without attributes
abbrev pub packed_row : ℕ → PathRow → Packed
packed_row most r = record { path = r.path; bytes = r.bytes; most = most; attributes = [] }

-- rows say what is below a folder: all of it and nothing else, where the host is known
pub record PacksFolder (tree : Option HostTree) (dir : List ℕ) (most : ℕ) (rows : List PackRow) : Type 0 where
  pub shown : List PathRow
  pub ordered : AreFolderRows shown
  pub all : IfSome tree (λ t. AreAllBelow most_file t dir shown)
  pub packed : AreRowsOf rows (map (packed_row most) shown)

-- ---- rows, as the code has them

-- the text of a folder's row, with this bound and without attributes
abbrev pub text_of_folder_row : ℕ → FolderRow → RowText
text_of_folder_row most row = record {
  text = row.path.items;
  bytes = option_map (λ b. b.items) row.bytes;
  most = most;
  attributes = [];
}
