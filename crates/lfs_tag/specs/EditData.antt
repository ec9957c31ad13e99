-- The bytes of a tag to be written (own).
use Rattle.std.specs.Prelude.{ℕ, List}
use Rattle.lfs_tag.specs.declared.edit_data.EditData.{EditData}
use Rattle.lfs_tag.specs.declared.edit_data.EditData.TheVariants.{Bytes, Words, Header}

abbrev pub data_bytes : EditData → List ℕ
data_bytes (Bytes bytes) = bytes.now
data_bytes (Words words) = words
data_bytes (Header header) = header
