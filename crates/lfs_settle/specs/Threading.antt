-- Directories put after each other as one thread (own).
use Rattle.std.specs.Prelude.{List, [], ◌∷◌, ◌++◌}
use Rattle.lfs_meta.specs.declared.tail.Tail.TheVariants.{End}
use Rattle.lfs_fs.specs.Gathering.{PairPart}
use Rattle.lfs_fs.specs.Thread.{soft_to}
use Rattle.lfs_settle.specs.Settled.{ending}

-- the parts of a directory put after a thread
abbrev pub put_after : List PairPart → List PairPart → List PairPart
put_after thread [] = thread
put_after thread (p ∷ ps) = ending (soft_to p.0) thread ++ ending End (p ∷ ps)

-- and those of directories, one after another
abbrev pub put_all_after : List PairPart → List (List PairPart) → List PairPart
put_all_after thread [] = thread
put_all_after thread (g ∷ gs) = put_all_after (put_after thread g) gs
