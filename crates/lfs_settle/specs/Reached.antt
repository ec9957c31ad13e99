-- The directories of a thread that a path from the root leads to (SPEC.md, "0x200 directory struct").
use Rattle.std.specs.Prelude.{ℕ, Bool, false, List, [], ◌∷◌, length, flat_map, not, zero, suc, if◌then◌else◌}
use Rattle.std.specs.List.{filter, list_any}
use Rattle.lfs_meta.specs.Body.{Pair}
use Rattle.lfs_meta.specs.Runs.{onto}
use Rattle.lfs_fs.specs.Pair.{root}
use Rattle.lfs_fs.specs.Gathering.{PairPart}
use Rattle.lfs_fs.specs.Thread.{is_hard}
use Rattle.lfs_settle.specs.InStep.{pairs_named, same_blocks}

-- the parts of a thread, those of each directory together: cut after each part that has no hard tail
abbrev pub groups : List PairPart → List (List PairPart)
groups [] = []
groups (p ∷ ps) = if is_hard p.1.tail then onto p (groups ps) else (p ∷ []) ∷ groups ps

-- a directory's first pair is one of these
abbrev pub begins_in : List Pair → List PairPart → Bool
begins_in named [] = false
begins_in named (p ∷ ps) = list_any (same_blocks p.0) named

abbrev pub parts_of : List (List PairPart) → List PairPart
parts_of gs = flat_map (λ g. g) gs

-- the root's pair, and the pairs that directories name
abbrev pub named_by : List (List PairPart) → List Pair
named_by gs = root ∷ pairs_named (parts_of gs)

-- the pairs that are named by paths of at most so many names
abbrev pub named_within : List (List PairPart) → ℕ → List Pair
named_within gs zero = named_by []
named_within gs (suc n) = named_by (filter (begins_in (named_within gs n)) gs)

-- The directories that a path leads to. No path to a new one has more names than there are directories.
abbrev pub reached_of : List (List PairPart) → List (List PairPart)
reached_of gs = filter (begins_in (named_within gs (length gs))) gs

-- and those that none leads to
abbrev pub unreached_of : List (List PairPart) → List (List PairPart)
unreached_of gs = filter (λ g. not (begins_in (named_within gs (length gs)) g)) gs
