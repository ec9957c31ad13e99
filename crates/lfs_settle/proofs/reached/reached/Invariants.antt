-- Those that are found to be reached.
use Rattle.std.proofs.Common.{◌+◌, ◌*◌, length, map}
use Rattle.lfs_fs.specs.Used.{unmarked}
use Rattle.lfs_settle.specs.Reaching.{AreReaching}
use Rattle.lfs_settle.proofs.reached.reached.Given as goal

abbrev pub invariant-walk : goal.invariant-walk
invariant-walk l = AreReaching (map (λ g. g.items) l.groups.items) l.reached.items l.waiting.items

abbrev pub decreases-walk : goal.decreases-walk
decreases-walk l = 2 * unmarked l.reached.items + length l.waiting.items
