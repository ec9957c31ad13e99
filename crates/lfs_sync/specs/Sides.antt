-- The rows of an image and of a folder, as the code has them side by side (own).
use Rattle.std.specs.Prelude.{◌≡◌, List, [], ◌∷◌, ◌++◌, Option, Some, None, All, map}
use Rattle.std.specs.declared.cmp.Ordering.{Ordering}
use Rattle.std.specs.declared.cmp.Ordering.TheVariants.{Less, Greater}
use Rattle.lfs_block.specs.Disk.{Disk}
use Rattle.lfs_fs.specs.Listed.{Listed}
use Rattle.lfs_fs.specs.Path.{Path}
use Rattle.lfs_fs.specs.RowShown.{shown_node}
use Rattle.lfs_listing.specs.Below.{names}
use Rattle.lfs_listing.specs.Comparing.{IsReadable}
use Rattle.lfs_listing.specs.Order.{path_order}
use Rattle.lfs_sync.specs.Shown.{Shown, wanted_node}
use Rattle.lfs_sync.specs.SyncRows.{bytes_at}
use Rattle.lfs_sync.specs.declared.held_row.HeldRow.{HeldRow}
use Rattle.lfs_sync.specs.declared.sync_row.SyncRow.{SyncRow}
use Rattle.lfs_sync.specs.declared.wanted_row.WantedRow.{WantedRow}

-- what a row of an image shows on its disk
abbrev pub held_shown : Disk → HeldRow → Shown
held_shown d h = record { path = names h.path.items; node = shown_node d h.row.entry }

abbrev pub held_all : Disk → List HeldRow → List Shown
held_all d held = map (held_shown d) held

-- a row is held behind others, if this is left of its path
abbrev pub HoldsMore : Option Path → Listed → List HeldRow → List HeldRow → Type 0
HoldsMore None row old new = new ≡ old
HoldsMore (Some rest) row old new = (h : HeldRow) × (names h.path.items ≡ rest) × (h.row ≡ row) × (new ≡ old ++ h ∷ [])

-- what a row of a folder has
abbrev pub wanted_shown : List SyncRow → WantedRow → Shown
wanted_shown rows w = record { path = names w.path.items; node = wanted_node (bytes_at rows w.place) }

abbrev pub wanted_all : List SyncRow → List WantedRow → List Shown
wanted_all rows wanted = map (wanted_shown rows) wanted

-- each row's body can be read
abbrev pub CanBeRead : Disk → List HeldRow → Type 0
CanBeRead d held = All (λ h. IsReadable d h.row.entry.body) held

-- whose first row comes first; of no rows it never does
abbrev pub first_order : List HeldRow → List WantedRow → Ordering
first_order [] wanted = Greater
first_order (h ∷ held) [] = Less
first_order (h ∷ held) (w ∷ wanted) = path_order (names h.path.items) (names w.path.items)
