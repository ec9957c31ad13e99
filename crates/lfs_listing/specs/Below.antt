-- The listing of what stands at a path and below (own).
use Rattle.std.specs.Borrow.{Bor}
use Rattle.std.specs.Prelude.{ℕ, List, [], if◌then◌else◌, flat_map, is_some, map}
use Rattle.lfs_block.specs.Disk.{Disk}
use Rattle.lfs_command.specs.PathMap.{below}
use Rattle.lfs_fs.specs.Path.{Path}
use Rattle.lfs_fs.specs.Row.{Row}
use Rattle.lfs_json.specs.declared.form.Form.{Form}
use Rattle.lfs_listing.specs.Digests.{digested_text}
use Rattle.lfs_listing.specs.Forms.{row_text}
use Rattle.lfs_meta.specs.Name.{Name}

-- borrowed names
abbrev pub names : List (Bor Name) → Path
names ns = map (λ n. n.now) ns

-- the lines of a row that is at a path or below, which are shown so
abbrev pub lines_at : (Row → List ℕ) → Path → Row → List ℕ
lines_at show at r = if is_some (below at r.path) then show r else []

-- the lines of all rows that are
abbrev pub rows_at : (Row → List ℕ) → Path → List Row → List ℕ
rows_at show at rows = flat_map (lines_at show at) rows

-- in a form
abbrev pub listing_at : Form → Path → List Row → List ℕ
listing_at form at rows = rows_at (row_text form) at rows

-- with the digests of files' contents
abbrev pub digests_at : Form → Disk → Path → List Row → List ℕ
digests_at form d at rows = rows_at (digested_text form d) at rows
