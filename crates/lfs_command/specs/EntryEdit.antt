-- Edits of a list of entries (own).
use Rattle.std.specs.Prelude.{List, [], ◌∷◌, not, if◌then◌else◌, map}
use Rattle.std.specs.List.{filter}
use Rattle.lfs_meta.specs.Name.{Name}
use Rattle.lfs_fs.specs.NameOrder.{precedes}
use Rattle.lfs_fs.specs.Entry.{Entry, is_named}

-- an entry put before the first one with a greater name, else at the end
unfoldable pub place : Entry → List Entry → List Entry
place e [] = e ∷ []
place e (f ∷ fs) = if precedes e.name f.name then e ∷ f ∷ fs else f ∷ place e fs

-- the entries of a name taken out
abbrev pub without : Name → List Entry → List Entry
without n = filter (λ e. not (is_named n e))

-- the entries of a name changed
abbrev pub changed : Name → (Entry → Entry) → List Entry → List Entry
changed n f = map (λ e. if is_named n e then f e else e)
