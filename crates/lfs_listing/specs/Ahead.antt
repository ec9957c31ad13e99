-- Rows that are left, of which the first is at hand (own).
use Rattle.std.specs.Prelude.{ℕ, List, [], ◌∷◌, Option, Some, None}
use Rattle.lfs_block.specs.Disk.{Disk}
use Rattle.lfs_fs.specs.Entry.{Entry}
use Rattle.lfs_fs.specs.Path.{Path}
use Rattle.lfs_fs.specs.Row.{Row}
use Rattle.lfs_fs.specs.Listed.{Listed, rows_after}
use Rattle.lfs_json.specs.declared.form.Form.{Form}
use Rattle.lfs_listing.specs.Difference.{changed_text, marked_text, rewritten}
use Rattle.lfs_listing.specs.declared.mark.Mark.{Mark}

-- the row at hand, which is at this path, and those that are listed behind it; nothing where none is at hand
abbrev pub rows_ahead : Path → Option Listed → List Listed → List Row
rows_ahead path None later = []
rows_ahead path (Some row) later = record { path = path; entry = row.entry } ∷ rows_after path later

-- the entry of the first row
abbrev pub first_row_entry : List Row → Option Entry
first_row_entry [] = None
first_row_entry (r ∷ rs) = Some r.entry

-- what is said of the first row, which only one image has
abbrev pub first_marked : Form → Mark → List Row → List ℕ
first_marked form mark [] = []
first_marked form mark (r ∷ rs) = marked_text form mark r

-- what is said of it where only its contents differ
abbrev pub first_rewritten : Form → List Row → List ℕ
first_rewritten form [] = []
first_rewritten form (r ∷ rs) = rewritten form r

-- what differs between the first rows
abbrev pub first_changed : Form → Disk → List Row → Disk → List Row → List ℕ
first_changed form d [] e bs = []
first_changed form d (a ∷ left) e [] = []
first_changed form d (a ∷ left) e (b ∷ bs) = changed_text form d a e b
