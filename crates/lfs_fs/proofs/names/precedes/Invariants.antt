use Rattle.std.proofs.Common.{◌≡◌, drop}
use Rattle.lfs_fs.specs.NameOrder.{precedes}
use Rattle.lfs_fs.proofs.names.precedes.Given as goal

-- what is left decides
abbrev pub invariant-each : goal.invariant-each
invariant-each l = precedes (drop l.index l.left) (drop l.index l.right) ≡ precedes l.left l.right
