-- What is read for changes of whole trees (own).
use Rattle.std.specs.Borrow.{Bor}
use Rattle.std.specs.Prelude.{◌≡◌, ⊤, ℕ, Bool, false, List, Option, IfSome, map}
use Rattle.lfs_exchange.specs.Handing.{HandsSource, IsUnreadBy, is_input, source_call}
use Rattle.lfs_extract.specs.FolderRows.{AreAllBelow, AreFolderRows, PathRow}
use Rattle.lfs_fs.specs.Limits.{most_file}
use Rattle.lfs_history.specs.Filling.{bytes_given}
use Rattle.lfs_history.specs.declared.source.Source.{Source}
use Rattle.lfs_host.specs.HostTree.{HostTree}
use Rattle.lfs_host.specs.Scene.{Scene}
use Rattle.lfs_request.specs.declared.fault.Fault.{Fault}
use Rattle.lfs_request.specs.declared.tree_change.TreeChange.{TreeChange}
use Rattle.lfs_request.specs.declared.tree_change.TreeChange.TheVariants.{Remove, Make, Put, Sync}
use Rattle.lfs_step.specs.TreeChanging.{Changing}
use Rattle.lfs_sync.specs.Shown.{wanted_of}
use Rattle.lfs_sync.specs.SyncRows.{AreRowsOfFolder}
use Rattle.lfs_sync.specs.declared.sync_row.SyncRow.{SyncRow}
use Rattle.lfs_open.specs.HostFolder.{ReadsNoFolder}

-- a change by where its contents come from, and by the name of its folder
abbrev pub Asking : Type 0
Asking = TreeChange Source (Bor (List ℕ))

-- rows say what is below a folder: all of it and nothing else, where the host is known
pub record SyncsFolder (tree : Option HostTree) (dir : List ℕ) (rows : List SyncRow) : Type 0 where
  pub shown : List PathRow
  pub ordered : AreFolderRows shown
  pub all : IfSome tree (λ t. AreAllBelow most_file t dir shown)
  pub rows_are : AreRowsOfFolder rows (map wanted_of shown)

-- the change that it becomes, with all that is read of a host for it in hand
abbrev pub BecomesChange : Asking → Scene → Changing → Type 0
BecomesChange (Remove path) s (Remove text) = text ≡ path
BecomesChange (Make path) s (Make text) = text ≡ path
BecomesChange (Put path source most) s (Put text bytes bound) =
    (text ≡ path) × (bound ≡ most) × ((read : List ℕ) × HandsSource source s.files s.typed read × (bytes.now ≡ bytes_given read source))
BecomesChange (Sync path dir most) s (Sync text rows bound) = (text ≡ path) × (bound ≡ most) × SyncsFolder s.tree dir.now rows.now
BecomesChange _ s _ = ⊥

-- what is read before the image's files are taken up is read: a folder
abbrev pub IsReadFirst : Asking → Scene → Type 0
IsReadFirst (Sync path dir most) s = (rows : List SyncRow) × SyncsFolder s.tree dir.now rows
IsReadFirst _ s = ⊤

-- why what is read for a change isn't
abbrev pub IsNotReadFor : Asking → Scene → Scene → Fault → Type 0
IsNotReadFor (Put path source most) old new why = IsUnreadBy (source_call source) new why
IsNotReadFor (Sync path dir most) old new why = ReadsNoFolder old.tree dir.now new why
IsNotReadFor _ old new why = ⊥

-- whether standard input is read for it
abbrev pub change_reads_input : Asking → Bool
change_reads_input (Put path source most) = is_input source
change_reads_input _ = false
