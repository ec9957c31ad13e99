-- A change of a history as JSON (own).
use Rattle.std.specs.Prelude.{ℕ, Bool, List, [], ◌∷◌, if◌then◌else◌, codes}
use Rattle.json.specs.Json.{Json, string}
use Rattle.lfs_json.specs.Object.{object_of, integer}

-- whether it is one of those that are done
abbrev pub state_word : Bool → List ℕ
state_word done = if done then codes "done" else codes "undone"

-- the object in front of what it changed: its number, from the oldest on, and its state
abbrev pub json_of_step : ℕ → Bool → Json
json_of_step number done = object_of ((codes "number", integer number) ∷ (codes "state", string (state_word done)) ∷ [])
