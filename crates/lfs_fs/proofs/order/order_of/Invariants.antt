use Rattle.lfs_fs.specs.Ordered.{IsWalking, work}
use Rattle.lfs_fs.proofs.order.order_of.Given as goal

abbrev pub invariant-loop-walk : goal.invariant-loop-walk
invariant-loop-walk l = IsWalking l.outline l.walk.table.entries l.walk.order.items l.walk.waiting l.walk.opened.items

abbrev pub decreases-loop-walk : goal.decreases-loop-walk
decreases-loop-walk l = work l.outline l.walk.waiting l.walk.opened.items
