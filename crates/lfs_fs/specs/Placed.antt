-- Places of entries in a volume (own).
use Rattle.std.specs.Prelude.{ℕ, zero, suc, ◌==◌, List, [], ◌∷◌, ◌++◌, Option, Some, All, IsSome, if◌then◌else◌, length, map, slice_get}
use Rattle.std.specs.Option.{option_and_then, unwrap_or}
use Rattle.lfs_fs.specs.declared.place.Place.{Place}
use Rattle.lfs_fs.specs.Entry.{Inline, Entry}
use Rattle.lfs_fs.specs.Directory.{Part, Directory, parts}
use Rattle.lfs_fs.specs.Volume.{Volume}
use Rattle.lfs_fs.specs.Tree.{top}
use Rattle.lfs_fs.specs.Row.{Row}
use Rattle.lfs_fs.specs.Listed.{Listed, rows_listed}

-- the entry at a place in directories
abbrev pub entry_in_directories : List Directory → Place → Option Entry
entry_in_directories ds p = option_and_then (λ d. option_and_then (λ x. slice_get x.entries p.entry) (slice_get (parts d) p.part))
    (slice_get ds p.directory)

-- the entry at a place; the root's is the one of depth 0
abbrev pub entry_placed : Volume → Place → Option Entry
entry_placed v p = if p.depth == 0 then Some (top v) else entry_in_directories v.directories p

-- each place has an entry
abbrev pub ArePlaces : Volume → List Place → Type 0
ArePlaces v places = All (λ p. IsSome (entry_placed v p)) places

-- what is taken for the entry of a place that has none
abbrev pub no_entry : Entry
no_entry = record { name = []; body = Inline []; attributes = [] }

-- what is listed of a place
abbrev pub listed_at : Volume → Place → Listed
listed_at v p = record { depth = p.depth; entry = unwrap_or (entry_placed v p) no_entry }

-- the rows of places
abbrev pub rows_of : Volume → List Place → List Row
rows_of v places = rows_listed (map (listed_at v) places)

-- ---- the places of a directory's entries

-- so many places of a part, from one on
abbrev pub places_from : ℕ → ℕ → ℕ → ℕ → ℕ → List Place
places_from depth directory part entry zero = []
places_from depth directory part entry (suc more) =
    record { depth = depth; directory = directory; part = part; entry = entry } ∷ places_from depth directory part (suc entry) more

-- the places of the entries of parts, from one part on
abbrev pub places_in : ℕ → ℕ → ℕ → List Part → List Place
places_in depth directory part [] = []
places_in depth directory part (p ∷ ps) = places_from depth directory part 0 (length p.entries) ++ places_in depth directory (suc part) ps
