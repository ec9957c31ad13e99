-- Copies of what a mounted image's rows hold (own).
use Rattle.std.specs.Prelude.{◌≡◌, ℕ, List, map}
use Rattle.lfs_block.specs.Disk.{Disk}
use Rattle.lfs_fs.specs.Row.{Row}
use Rattle.lfs_pack.specs.declared.pack_row.PackRow.{PackRow}
use Rattle.lfs_pack.specs.Packed.{AreRowsOf}
use Rattle.lfs_pack.specs.Repacked.{all_packed}
use Rattle.lfs_pack.specs.RowText.{pack_text, source_text}
use Rattle.lfs_pack.specs.declared.source_row.SourceRow.{SourceRow}

-- with any bound, rows that have their texts, with bytes and attributes, are rows of what the image's rows are packed as
abbrev pub AreCopies : Disk → List Row → List SourceRow → Type 0
AreCopies d rows copied = (most : ℕ) (packed : List PackRow) → map pack_text packed ≡ map (source_text most) copied
    → AreRowsOf packed (all_packed most d rows)
