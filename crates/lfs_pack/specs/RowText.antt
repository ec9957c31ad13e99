-- A row with the text of its path, as it is packed (own).
use Rattle.std.specs.Prelude.{ℕ, List, Option, map}
use Rattle.std.specs.Option.{option_map}
use Rattle.lfs_block.specs.Disk.{Disk}
use Rattle.lfs_meta.specs.Attribute.{Attributes}
use Rattle.lfs_fs.specs.Path.{path_text}
use Rattle.lfs_fs.specs.Row.{Row}
use Rattle.lfs_pack.specs.declared.pack_row.PackRow.{PackRow}
use Rattle.lfs_pack.specs.Packed.{Packed, attribute_of, row_bytes}
use Rattle.lfs_pack.specs.Repacked.{packed_of}
use Rattle.lfs_pack.specs.declared.source_row.SourceRow.{SourceRow}

-- a path's text, a file's bytes, the bound with which they stand in its entry, and attributes
pub record RowText : Type 0 where
  pub text : List ℕ
  pub bytes : Option (List ℕ)
  pub most : ℕ
  pub attributes : Attributes

-- those of a row that is packed
abbrev pub pack_text : PackRow → RowText
pack_text row = record { text = row.path.now; bytes = row_bytes row; most = row.most; attributes = map attribute_of row.attributes.now }

-- those of a row that was copied of an image, with this bound
abbrev pub source_text : ℕ → SourceRow → RowText
source_text most row = record {
  text = row.path.items;
  bytes = option_map (λ b. b.items) row.bytes;
  most = most;
  attributes = map attribute_of row.attributes.items;
}

-- those of what is packed
abbrev pub packed_text : Packed → RowText
packed_text r = record { text = path_text r.path; bytes = r.bytes; most = r.most; attributes = r.attributes }

-- those of a row of an image, as it shows on the disk, with this bound
abbrev pub shown_text : ℕ → Disk → Row → RowText
shown_text most d r = packed_text (packed_of most d r)
