-- Files that stand in their entries (own).
use Rattle.std.specs.Prelude.{ℕ, List, [], ◌∷◌, ◌++◌, Option, Some, None, codes, flat_map, if◌then◌else◌, length, max, nat_lt}
use Rattle.lfs_fs.specs.Entry.{Body, Inline, Chain, Directory_at}
use Rattle.lfs_fs.specs.Path.{Path, path_text}
use Rattle.lfs_fs.specs.Row.{Row}
use Rattle.lfs_listing.specs.Listing.{shown_byte}

-- the length of a file that stands in its entry
abbrev pub in_entry : Body → Option ℕ
in_entry (Inline bytes) = Some (length bytes)
in_entry (Chain blocks bytes) = None
in_entry (Directory_at pair) = None

-- the greater of a length and another one, if there is one
abbrev pub greater : ℕ → Option ℕ → ℕ
greater n None = n
greater n (Some m) = max n m

-- the greatest of a length and those of files that stand in their entries
abbrev pub longest_or : ℕ → List Row → ℕ
longest_or n [] = n
longest_or n (r ∷ rows) = longest_or (greater n (in_entry r.entry.body)) rows

-- the length of the longest file that stands in its entry
abbrev pub longest : List Row → ℕ
longest rows = longest_or 0 rows

-- the line of a path
abbrev pub path_line : Path → List ℕ
path_line p = flat_map shown_byte (path_text p) ++ codes "\n"

-- the line of a path, if the length at it is greater than this one
abbrev pub line_if_greater : ℕ → Path → Option ℕ → List ℕ
line_if_greater most p None = []
line_if_greater most p (Some n) = if nat_lt most n then path_line p else []

-- the line of a file that stands in its entry and is longer
abbrev pub lines_if_longer : ℕ → Row → List ℕ
lines_if_longer most r = line_if_greater most r.path (in_entry r.entry.body)

-- the lines of all that are
abbrev pub longer_text : ℕ → List Row → List ℕ
longer_text most rows = flat_map (lines_if_longer most) rows
