-- The rows of an image at a path and below it, and how they are told from others (own).
use Rattle.std.specs.Prelude.{◌≡◌, ◌<◌, ℕ, suc, true, List, [], ◌∷◌, Option, Some, None, length, bytes_eq, is_some, if◌then◌else◌}
use Rattle.lfs_fs.specs.Entry.{Entry}
use Rattle.lfs_fs.specs.Path.{Path}
use Rattle.lfs_fs.specs.Row.{Row}
use Rattle.lfs_command.specs.PathMap.{below}
use Rattle.lfs_extract.specs.declared.shared_prefix.SharedPrefix.{SharedPrefix}

-- what stands at or below a path, of which this is left, as a row in front of others
abbrev pub row_below : Entry → Option Path → List Row → List Row
row_below e None more = more
row_below e (Some rest) more = record { path = rest; entry = e } ∷ more

-- the rows at and below a path, each with what is left of its own
abbrev pub rows_below : Path → List Row → List Row
rows_below at [] = []
rows_below at (r ∷ rows) = row_below r.entry (below at r.path) (rows_below at rows)

-- with how many names of the first path the second begins
abbrev pub shared : Path → Path → ℕ
shared [] path = 0
shared (n ∷ at) [] = 0
shared (n ∷ at) (m ∷ path) = if bytes_eq n m then suc (shared at path) else 0

-- how many names a path has, and with how many of another one's it begins
pub record IsSharedPrefix (at path : Path) (prefix : SharedPrefix) : Type 0 where
  pub long : prefix.length ≡ length path
  pub same : prefix.shared ≡ shared at path

-- a path is below another, and not it
abbrev pub IsDeeper : Path → Path → Type 0
IsDeeper at path = (is_some (below at path) ≡ true) × (length at < length path)
