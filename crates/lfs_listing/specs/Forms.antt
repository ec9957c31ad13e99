-- Rows in either form (own).
use Rattle.std.specs.Prelude.{ℕ, List}
use Rattle.lfs_fs.specs.Row.{Row}
use Rattle.lfs_json.specs.Line.{line_of}
use Rattle.lfs_json.specs.declared.form.Form.{Form}
use Rattle.lfs_json.specs.declared.form.Form.TheVariants.{Text, Json}
use Rattle.lfs_listing.specs.Listing.{row_lines}
use Rattle.lfs_json.specs.Rows.{json_of_row}

-- the lines of a row, or its object as one line
abbrev pub row_text : Form → Row → List ℕ
row_text Text r = row_lines r
row_text Json r = line_of (json_of_row r.path r.entry)
