use Rattle.std.proofs.Common.{◌+◌, ◌-◌, length}
use Rattle.lfs_fs.specs.Used.{unmarked}
use Rattle.lfs_survey.proofs.AlongLemmas.{IsAlong}
use Rattle.lfs_survey.proofs.lone.areas_along.Given as goal

abbrev pub invariant-areas : goal.invariant-areas
invariant-areas g l = IsAlong (g.B.Blocks.disk l.blocks) l.fn.looked l.looked l.starts l.areas.items l.next

abbrev pub decreases-areas : goal.decreases-areas
decreases-areas g l = unmarked l.looked + (length l.areas.items - l.next)
