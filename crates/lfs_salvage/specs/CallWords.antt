-- Which words entries get, since the host refused those before them (own).
use Rattle.std.specs.Prelude.{List, [], ◌∷◌, Option, Some}
use Rattle.lfs_salvage.specs.declared.wording.Wording.{Wording}
use Rattle.lfs_salvage.specs.declared.wording.Wording.TheVariants.{Own}

-- at a call of an area: the word of its folder, and those of the entries that are found there, in order; none of what the host can't have a
-- name for
pub record CallWords : Type 0 where
  pub folder : Option Wording
  pub entries : List (Option Wording)

-- where a list of them ends, each has its own

abbrev pub first_entry : List (Option Wording) → Option Wording
first_entry [] = Some Own
first_entry (w ∷ ws) = w

abbrev pub later_entries : List (Option Wording) → List (Option Wording)
later_entries [] = []
later_entries (w ∷ ws) = ws

abbrev pub first_call : List CallWords → CallWords
first_call [] = record { folder = Some Own; entries = [] }
first_call (c ∷ cs) = c

abbrev pub later_calls : List CallWords → List CallWords
later_calls [] = []
later_calls (c ∷ cs) = cs

abbrev pub first_area : List (List CallWords) → List CallWords
first_area [] = []
first_area (cs ∷ more) = cs

abbrev pub later_areas : List (List CallWords) → List (List CallWords)
later_areas [] = []
later_areas (cs ∷ more) = more
