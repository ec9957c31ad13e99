-- Places that wait in a walk, those of a part's entries together (own).
use Rattle.std.specs.Prelude.{◌≡◌, ◌<◌, ◌-◌, List, [], ◌∷◌, Option, Some, None}
use Rattle.lfs_fs.specs.declared.place.Place.{Place}
use Rattle.lfs_fs.specs.declared.waiting_entries.WaitingEntries.{WaitingEntries}
use Rattle.lfs_fs.specs.Placed.{places_from}

-- there is at least one
abbrev pub IsWaiting : WaitingEntries → Type 0
IsWaiting w = w.next < w.end

-- the place of the next one
abbrev pub next_place : WaitingEntries → Place
next_place w = record { depth = w.depth; directory = w.directory; part = w.part; entry = w.next }

-- the places of all of them
abbrev pub waiting_in : WaitingEntries → List Place
waiting_in w = places_from w.depth w.directory w.part w.next (w.end - w.next)

-- those that are left
abbrev pub waiting_still : Option WaitingEntries → List Place
waiting_still None = []
waiting_still (Some w) = waiting_in w

-- the next place is taken, if one waits
abbrev pub TakesNext : Option Place → List Place → List Place → Type 0
TakesNext None old new = (old ≡ []) × (new ≡ [])
TakesNext (Some place) old new = old ≡ place ∷ new
