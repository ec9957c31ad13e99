use Rattle.std.proofs.Common.{◌≡◌, ◌++◌, map, take}
use Rattle.lfs_pair.specs.Difference.{Comes}
use Rattle.lfs_pair.specs.DifferenceSeen.{fate_seen}
use Rattle.lfs_pair.proofs.aligning.push_coming.Given as goal

abbrev pub invariant-loop-entry : goal.invariant-loop-entry
invariant-loop-entry l = map fate_seen l.aligned.items ≡ map fate_seen l.initial.aligned.items ++ map Comes (take l.entry-index l.entries)
