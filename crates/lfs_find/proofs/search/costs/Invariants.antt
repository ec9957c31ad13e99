-- The costs so far and those of the places that are left are those of all.
use Rattle.std.proofs.Common.{◌≡◌, ◌+◌, drop}
use Rattle.lfs_find.specs.Found.{costs}
use Rattle.lfs_find.proofs.search.costs.Given as goal

abbrev pub invariant-loop-place : goal.invariant-loop-place
invariant-loop-place l = l.sum + costs (drop l.place-index l.places) ≡ costs l.places
