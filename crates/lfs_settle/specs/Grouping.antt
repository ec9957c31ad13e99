-- The parts of a thread as they are put together to directories (own).
use Rattle.std.specs.Prelude.{◌≡◌, ◌++◌, Bool, true, false, List, [], ◌∷◌}
use Rattle.lfs_meta.specs.Runs.{onto}
use Rattle.lfs_fs.specs.Gathering.{PairPart}

-- the directories that have ended, and the parts of the one that goes on: it goes on, or ends with these parts
abbrev pub GoesOn : Bool → List (List PairPart) → List (List PairPart) → List PairPart → List PairPart → Type 0
GoesOn true gs new parts current = (new ≡ gs) × (current ≡ parts)
GoesOn false gs new parts current = (new ≡ gs ++ parts ∷ []) × (current ≡ [])

-- parts as a directory, if there are any
abbrev pub as_group : List PairPart → List (List PairPart)
as_group [] = []
as_group (p ∷ ps) = (p ∷ ps) ∷ []

-- parts put before the first directory
abbrev pub put_before_all : List PairPart → List (List PairPart) → List (List PairPart)
put_before_all [] gs = gs
put_before_all (p ∷ ps) gs = onto p (put_before_all ps gs)
