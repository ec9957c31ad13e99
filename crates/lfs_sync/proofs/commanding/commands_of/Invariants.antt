use Rattle.std.proofs.Common.{◌≡◌, map, take}
use Rattle.lfs_command.specs.AskedFor.{asked_for}
use Rattle.lfs_command.specs.Command.{bounded}
use Rattle.lfs_sync.specs.Planned.{plan_asked}
use Rattle.lfs_sync.proofs.commanding.commands_of.Given as goal

-- those so far
abbrev pub invariant-each : goal.invariant-each
invariant-each l = map asked_for l.commands.items ≡ map (bounded l.most) (plan_asked l.rows (take l.planned-index l.plan))
