use Rattle.std.proofs.Common.{◌≡◌, ◌++◌, map, drop}
use Rattle.lfs_pair.specs.Difference.{fates}
use Rattle.lfs_pair.specs.DifferenceSeen.{fate_seen}
use Rattle.lfs_pair.proofs.aligning.fates.Given as goal

abbrev pub invariant-loop-entry : goal.invariant-loop-entry
invariant-loop-entry l = map fate_seen l.aligned.items ++ fates (drop l.entry-index l.old) l.left ≡ fates l.old l.new
