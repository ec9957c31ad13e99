-- What is best of the places that are left, behind what was found first, is best of all.
use Rattle.std.proofs.Common.{Option, drop, None}
use Rattle.lfs_find.specs.Found.{IsBest}
use Rattle.lfs_find.specs.declared.found.Found.{Found}
use Rattle.lfs_find.proofs.judging.best_of.Given as goal

abbrev pub invariant-loop-place : goal.invariant-loop-place
invariant-loop-place l = (best : Option Found) → IsBest l.bytes (drop l.place-index l.places) l.first best → IsBest l.bytes l.places None best
