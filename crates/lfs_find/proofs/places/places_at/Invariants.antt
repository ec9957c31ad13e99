-- The places of the sizes so far.
use Rattle.std.proofs.Common.{◌≡◌, take, flat_map}
use Rattle.lfs_find.specs.Found.{places_of}
use Rattle.lfs_find.proofs.places.places_at.Given as goal

abbrev pub invariant-loop-size : goal.invariant-loop-size
invariant-loop-size l = l.places.items ≡ flat_map (places_of l.bytes l.from l.at) (take l.size-index l.sizes)
