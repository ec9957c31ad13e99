-- Parts put after each other, but for those that leave (own).
use Rattle.std.specs.Prelude.{◌&&◌, Bool, false, List, [], ◌∷◌, ◌++◌, if◌then◌else◌}
use Rattle.lfs_fs.specs.Gathering.{PairPart}
use Rattle.lfs_fs.specs.Thread.{is_hard}
use Rattle.lfs_settle.specs.Settled.{ending}
use Rattle.lfs_adopt.specs.Tidied.{is_empty}

-- the last of parts has a hard tail
abbrev pub ends_hard : List PairPart → Bool
ends_hard [] = false
ends_hard (p ∷ []) = is_hard p.1.tail
ends_hard (p ∷ q ∷ ps) = ends_hard (q ∷ ps)

-- a part put after others, unless it leaves: the last of them gets its tail then
abbrev pub put_next : List PairPart → PairPart → List PairPart
put_next ps q = if ends_hard ps && is_empty q.1.entries then ending q.1.tail ps else ps ++ q ∷ []
